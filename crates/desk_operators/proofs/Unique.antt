-- The promise of the call on the operators of a file leaves one answer, one content of the lent bytes and one number of rows.
use mathlib.Core.Path.{◌≡◌, sym, ◌∙◌}
use mathlib.Core.List.{List}
use Prim.Native.Nat.{ℕ}
use Rattle.desk_operators.specs.Promises.{OperatorsTold}

pub one_told : (file out : List ℕ) (a b : ℕ) (x y : List ℕ) (m n : ℕ) → OperatorsTold file out a x m → OperatorsTold file out b y n → (a ≡ b) × (x ≡ y) × (m ≡ n)
one_told file out a b x y m n p q = (p.0 ∙ sym q.0, p.1 ∙ sym q.1, p.2 ∙ sym q.2)
