-- Document 01: 13Z, the remarks. They are kept byte for byte.
use Rattle.std.specs.Prelude.{ℕ, Bool, ◌&&◌, ◌||◌, List, [], ◌∷◌, get_or, take, drop}
use Rattle.columns.specs.Sets.{between, among, is_hex, is_text}
use Rattle.columns.specs.Texts.{head, skip, blank, every, one_of, sized}

-- Places 2-10: blank, or spaces then upper-case hex digits to place 10.
unfoldable pub cell_good : List ℕ → Bool
cell_good p = every is_hex (skip p)

-- Places 11-13: " 0", " 2" or "10" and I or O, or all blank.
unfoldable pub installation_good : List ℕ → Bool
installation_good p = blank p || (one_of (" 0" ∷ " 2" ∷ "10" ∷ []) (take 2 p) && among "IO" (get_or p 2 0))

-- The rule on the columns: blank, or place 1 is 2 to 5, then the cell, the installation, and 37 bytes of the text set, of which a space may stand first.
unfoldable pub remarks_good : List ℕ → Bool
remarks_good p =
    sized 50 p
    && (blank p
    || (between "2" "5" (head p)
    && cell_good (take 9 (drop 1 p))
    && installation_good (take 3 (drop 10 p))
    && every is_text (drop 13 p)))
