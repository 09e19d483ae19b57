-- Bytes as one number, low byte first.
use Rattle.std.specs.Prelude.{List, [], ◌∷◌, ℕ, ◌+◌, ◌*◌, take, drop}

-- The number that bytes give,
abbrev pub word_of : List ℕ → ℕ
word_of [] = 0
word_of (c ∷ t) = c + 256 * word_of t

-- and that of eight of them from a place on.
unfoldable pub word_at : List ℕ → ℕ → ℕ
word_at s at = word_of (take 8 (drop at s))
