-- The promise of the call on a refused line leaves one answer and one content of the lent numbers.
use mathlib.Core.Path.{◌≡◌, sym, ◌∙◌}
use mathlib.Core.List.{List}
use Prim.Native.Nat.{ℕ}
use Rattle.desk_lists.specs.Reasons.{LineKindTold}

-- `desk_line_kind` leaves one answer, one code and one kind.
pub one_line_kind : (t : List ℕ) (a b c d e f : ℕ) → LineKindTold t a c e → LineKindTold t b d f → (a ≡ b) × (c ≡ d) × (e ≡ f)
one_line_kind t a b c d e f p q = (p.0.0 ∙ sym q.0.0, p.0.1 ∙ sym q.0.1, p.1 ∙ sym q.1)
