-- A text that is written leaves one answer and one content of the lent bytes.
use mathlib.Core.Path.{◌≡◌, sym, ◌∙◌}
use mathlib.Core.List.{List}
use Prim.Native.Nat.{ℕ}
use Rattle.printing.specs.Promises.{Written}

-- A text is written into one buffer in one way.
pub one_written : (text out : List ℕ) (r r' : ℕ) (after after' : List ℕ) → Written text out r after → Written text out r' after' → (r ≡ r') × (after ≡ after')
one_written text out r r' after after' p q = (p.size ∙ sym q.size, p.stands ∙ sym q.stands)
