-- `number_flaws::tenths_flaw` meets its contract: each arm is the flaw that the answer brings.
use native.Mathlib.Omega.{arith}
use mathlib.Core.Path.{◌≡◌, sym, ◌∙◌, ap}
use Prim.Native.Nat.{ℕ}
use mathlib.Core.List.{List, []}
use Rattle.decimals.specs.Decimals.{magnitude_of, admits_decimal, decimal_of}
use Rattle.formats.specs.Formats.{digits_before, digits_after, may_sign, format_of}
use Rattle.formats.specs.declared.Format.{Format}
use Rattle.fields.specs.Table.{range_of}
use Rattle.flaw_parts.specs.Parts.{numbered, flaw_in}
use Rattle.flaw_parts.proofs.AdmittedLaws.{decimal_admitted}
use Rattle.numerals.proofs.NumberLaws.{number_carries}
use Rattle.numerals.proofs.Signs.{in_bits}
use Rattle.number_flaws.specs.Answers.{number_flaw}
use Rattle.number_flaws.proofs.AnswerLaws.{number_flaw_lem}
use Rattle.number_flaws.proofs.tenths_flaw.Goals as goal
use Rattle.std.specs.Prelude.{Option, Result, Ok, ℤ}
use Rattle.flaws.specs.declared.Flaw.{Flaw}

-- the answer's flaw is the field's
brings : (f : Format) (p : List ℕ) (v : Result (Option ℤ) Flaw) → format_of f p ≡ v → number_flaw (range_of f) v ≡ flaw_in (numbered (admits_decimal (may_sign f)) (range_of f) (format_of f)) [] p
unfolding decimal_of
brings f p v e = number_flaw_lem (admits_decimal (may_sign f)) (range_of f) (format_of f) p (decimal_admitted (digits_before f) (digits_after f) (may_sign f) p) (number_carries (may_sign f) (admits_decimal (may_sign f)) (magnitude_of (digits_before f) (digits_after f)) p) v e

pub returns-in-Err : goal.returns-in-Err
returns-in-Err c =
    brings c.args.format c.args.s.now _ (sym c.read_decimal.ensures ∙ c.in-Err.is)

pub returns-in-Ok-None : goal.returns-in-Ok-None
returns-in-Ok-None c =
    brings c.args.format c.args.s.now _ (sym c.read_decimal.ensures ∙ c.in-Ok-None.is ∙ ap Ok c.in-Ok-None.field-0-is)

pub returns-in-Ok-Some : goal.returns-in-Ok-Some
returns-in-Ok-Some c =
    c.range_flaw.ensures ∙ rw (c.in_range.ensures, in_bits c.in-Ok-Some.v (omega arith)) (brings c.args.format c.args.s.now _ (sym c.read_decimal.ensures ∙ c.in-Ok-Some.is ∙ ap Ok c.in-Ok-Some.field-0-is))
