-- `frequencies::put_unit` meets its contract: the byte that is set is all that stands there.
use Prim.Native.Nat.{ℕ}
use mathlib.Core.Path.{sym, ap, ◌∙◌}
use mathlib.Core.List.{[], ◌∷◌}
use Rattle.frequencies.specs.Frequencies.{spell_unit}
use Rattle.frequencies.proofs.FrequencyLaws.{one_column}
use Rattle.frequencies.proofs.put_unit.Goals as goal

pub returns-in-None : goal.returns-in-None
unfolding spell_unit
returns-in-None c =
    one_column c.args.s.now _ c.requires ∙ sym (ap spell_unit c.in-None.is)

pub returns-in-Some : goal.returns-in-Some
unfolding spell_unit
returns-in-Some c =
    one_column c.args.s.now _ c.requires ∙ ap (λ (b : ℕ). b ∷ []) c.unit_letter.ensures ∙ sym (ap spell_unit c.in-Some.is)
