-- How far two texts are alike.
use Rattle.std.specs.Prelude.{ℕ, suc, cond, List, [], ◌∷◌, eqb}

-- How many bytes two texts have alike in front: in texts of one length, the offset of their first difference.
unfoldable pub alike : List ℕ → List ℕ → ℕ
alike [] b = 0
alike (x ∷ a) [] = 0
alike (x ∷ a) (y ∷ b) = cond (eqb x y) (suc (alike a b)) 0
