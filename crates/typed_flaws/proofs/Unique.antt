-- The promise of the call on a typed station leaves one answer.
use mathlib.Core.Path.{◌≡◌, sym, ◌∙◌}
use Rattle.station.specs.declared.Station.{Station}
use Rattle.typed_flaws.specs.Promises.{TypedStationExplained}
use Rattle.typed_flaws.specs.declared.TypedExplained.{TypedExplained}

-- Two answers of `explain_typed` to one station are equal.
pub one_typed_explanation : (s : Station) (a b : TypedExplained) → TypedStationExplained s a → TypedStationExplained s b → a ≡ b
one_typed_explanation s a b p q = λ i. record { code = (p.0 ∙ sym q.0) i; flaw = (p.1 ∙ sym q.1) i }
