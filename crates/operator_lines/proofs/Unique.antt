-- The promise of what is printed leaves one answer and one content of the lent bytes.
use mathlib.Core.Path.{◌≡◌, sym, ◌∙◌}
use mathlib.Core.List.{List}
use Prim.Native.Nat.{ℕ}
use Rattle.operator_lines.specs.Promises.{OperatorsWritten}

-- Two answers of `write_operators` to one file and one buffer are equal, and so is what they leave there.
pub one_text : (file out : List ℕ) (r r' : ℕ) (after after' : List ℕ) → OperatorsWritten file out r after → OperatorsWritten file out r' after' → (r ≡ r') × (after ≡ after')
one_text file out r r' after after' p q = (p.size ∙ sym q.size, p.stands ∙ sym q.stands)
