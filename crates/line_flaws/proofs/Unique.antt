-- The promise of the call on a line leaves one answer.
use mathlib.Core.Path.{◌≡◌, sym, ◌∙◌}
use mathlib.Core.List.{List}
use Prim.Native.Nat.{ℕ}
use Rattle.station_flaws.specs.declared.Explained.{Explained}
use Rattle.line_flaws.specs.Promises.{LineExplained}

-- Two answers of `explain_line` to one line are equal.
pub one_line_explanation : (t : List ℕ) (a b : Explained) → LineExplained t a → LineExplained t b → a ≡ b
one_line_explanation t a b p q = λ i. record { outcome = (p.0 ∙ sym q.0) i; flaw = (p.1 ∙ sym q.1) i }
