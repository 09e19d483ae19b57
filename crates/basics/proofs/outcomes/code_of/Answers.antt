-- `basics::outcomes::code_of` meets its contract: every refusal but one comes without a code.
use Rattle.std.specs.Prelude.{◌≡◌, ℕ}
use mathlib.Core.Path.{refl}
use Rattle.basics.specs.Outcomes.{code_of}
use Rattle.basics.specs.declared.Refusal.{Refusal}
use Rattle.basics.specs.declared.Refusal.TheVariants as why
use Rattle.basics.proofs.outcomes.code_of.Goals as goal

-- each of them comes with 0
no_code : (r : Refusal) → ((code : ℕ) → r ≡ why.RuleBroken code → ⊥) → 0 ≡ code_of r
no_code why.FileTooLong k = refl
no_code why.FileNotRecords k = refl
no_code why.SheetLength k = refl
no_code why.SheetTrailer k = refl
no_code why.NoSuchRecord k = refl
no_code why.RecordLength k = refl
no_code why.BufferLength k = refl
no_code why.NoSuchField k = refl
no_code why.NotALine k = refl
no_code why.FieldTooLong k = refl
no_code why.BufferTooShort k = refl
no_code why.NotTwelveDigits k = refl
no_code why.LastDigitWrong k = refl
no_code why.NotMobileDefaults k = refl
no_code why.TooFewRows k = refl
no_code (why.RuleBroken c) k = absurd (k c refl)

pub returns-in-RuleBroken : goal.returns-in-RuleBroken
returns-in-RuleBroken c = rw c.in-RuleBroken.is

pub returns-in_default : goal.returns-in_default
returns-in_default c = no_code c.args.refusal c.in_default.not-RuleBroken
