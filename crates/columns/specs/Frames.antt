-- What the code alone wants: a text whose every byte stands between those of two others, as a number between its lowest and highest spelling.
use Rattle.std.specs.Prelude.{ℕ, Bool, ◌&&◌, List, [], ◌∷◌, leb}

-- The tests of a text's bytes, each from that of low up to that of high.
abbrev pub frames : List ℕ → List ℕ → List (ℕ → Bool)
frames [] highs = []
frames (low ∷ lows) [] = []
frames (low ∷ lows) (high ∷ highs) = (λ c. leb low c && leb c high) ∷ frames lows highs
