-- `number_flaws::amount_flaw` meets its contract: each arm is the flaw that the answer brings.
use native.Mathlib.Omega.{arith}
use mathlib.Core.Path.{◌≡◌, sym, ◌∙◌, ap}
use mathlib.Core.Bool.{false}
use Prim.Native.Nat.{ℕ}
use mathlib.Core.List.{List, []}
use Rattle.decimals.specs.Decimals.{magnitude_of, admits_decimal, decimal_of}
use Rattle.frequencies.specs.Frequencies.{above_zero}
use Rattle.fields.specs.Kinds.{amount}
use Rattle.flaw_parts.specs.Parts.{flaw_at}
use Rattle.flaw_parts.proofs.AdmittedLaws.{admitted}
use Rattle.numerals.proofs.NumberLaws.{number_carries}
use Rattle.numerals.proofs.Signs.{in_bits}
use Rattle.number_flaws.specs.Answers.{number_flaw}
use Rattle.number_flaws.proofs.AnswerLaws.{number_flaw_lem}
use Rattle.number_flaws.proofs.amount_flaw.Goals as goal
use Rattle.std.specs.Prelude.{Option, Result, Ok, ℤ}
use Rattle.flaws.specs.declared.Flaw.{Flaw}

-- the answer's flaw is the field's
brings : (p : List ℕ) (v : Result (Option ℤ) Flaw) → decimal_of 5 5 false p ≡ v → number_flaw above_zero v ≡ flaw_at 1 [] p
unfolding decimal_of
brings p v e = number_flaw_lem (admits_decimal false) above_zero (decimal_of 5 5 false) p (admitted amount 11 p) (number_carries false (admits_decimal false) (magnitude_of 5 5) p) v e

pub returns-in-Err : goal.returns-in-Err
returns-in-Err c = brings _ _ (sym c.read_decimal.ensures ∙ c.in-Err.is)

pub returns-in-Ok-None : goal.returns-in-Ok-None
returns-in-Ok-None c = brings _ _ (sym c.read_decimal.ensures ∙ c.in-Ok-None.is ∙ ap Ok c.in-Ok-None.field-0-is)

pub returns-in-Ok-Some : goal.returns-in-Ok-Some
returns-in-Ok-Some c = c.range_flaw.ensures ∙ rw (c.magnitude.ensures, in_bits c.in-Ok-Some.v (omega arith)) (brings _ _ (sym c.read_decimal.ensures ∙ c.in-Ok-Some.is ∙ ap Ok c.in-Ok-Some.field-0-is))
