-- `number_flaws::height_flaw` meets its contract: each arm is the flaw that the answer brings.
use native.Mathlib.Omega.{arith}
use mathlib.Core.Path.{◌≡◌, sym, ◌∙◌, ap}
use mathlib.Core.Bool.{true}
use Prim.Native.Nat.{ℕ}
use mathlib.Core.List.{List, []}
use Rattle.numerals.specs.Numbers.{admits_whole, whole_digits, signed_of}
use Rattle.distances.specs.Distances.{height_range}
use Rattle.fields.specs.Kinds.{metres_or_blank}
use Rattle.flaw_parts.specs.Parts.{flaw_at}
use Rattle.flaw_parts.proofs.AdmittedLaws.{admitted}
use Rattle.numerals.proofs.NumberLaws.{number_carries}
use Rattle.numerals.proofs.Signs.{in_bits}
use Rattle.distances.proofs.DistanceLaws.{in_four}
use Rattle.number_flaws.specs.Answers.{number_flaw}
use Rattle.number_flaws.proofs.AnswerLaws.{number_flaw_lem}
use Rattle.number_flaws.proofs.height_flaw.Goals as goal
use Rattle.std.specs.Prelude.{Option, Result, Ok, ℤ}
use Rattle.flaws.specs.declared.Flaw.{Flaw}

-- the answer's flaw is the field's
brings : (p : List ℕ) (v : Result (Option ℤ) Flaw) → signed_of p ≡ v → number_flaw height_range v ≡ flaw_at 13 [] p
unfolding signed_of
brings p v e = number_flaw_lem (admits_whole true) height_range signed_of p (admitted metres_or_blank 4 p) (number_carries true (admits_whole true) whole_digits p) v e

pub returns-in-Err : goal.returns-in-Err
returns-in-Err c = brings _ _ (sym c.read_signed.ensures ∙ c.in-Err.is)

pub returns-in-Ok-None : goal.returns-in-Ok-None
returns-in-Ok-None c = brings _ _ (sym c.read_signed.ensures ∙ c.in-Ok-None.is ∙ ap Ok c.in-Ok-None.field-0-is)

pub returns-in-Ok-Some : goal.returns-in-Ok-Some
returns-in-Ok-Some c = c.range_flaw.ensures ∙ rw (c.fits_signed.ensures, in_bits c.in-Ok-Some.z (omega arith), in_four _) (brings _ _ (sym c.read_signed.ensures ∙ c.in-Ok-Some.is ∙ ap Ok c.in-Ok-Some.field-0-is))
