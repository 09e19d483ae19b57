-- Document 02, wish 1: a text cut into lines. A line is what stands up to and with a line feed.
use Rattle.std.specs.Prelude.{ℕ, cond, List, [], ◌∷◌, ◌++◌}
use Rattle.semicolons.specs.Lines.{is_feed, last_byte}

-- The first line of a text, all of it where there is no line feed,
unfoldable pub first_line : List ℕ → List ℕ
first_line [] = []
first_line (c ∷ t) = cond (is_feed c) (c ∷ []) (c ∷ first_line t)

-- and what stands behind it.
unfoldable pub later_lines : List ℕ → List ℕ
later_lines [] = []
later_lines (c ∷ t) = cond (is_feed c) t (later_lines t)

-- The line that a text which goes on p leaves begun and not ended.
unfoldable pub open_line : List ℕ → List ℕ → List ℕ
open_line p [] = p
open_line p (c ∷ t) = cond (is_feed c) (open_line [] t) (open_line (p ++ (c ∷ [])) t)

-- It is empty behind a part that ends in a line feed; any other part goes on it.
abbrev pub after_part : List ℕ → List ℕ → List ℕ
after_part p part = cond (is_feed (last_byte part)) [] (p ++ part)
