-- Document 01: 4C, degrees (3), E or W, minutes (2), seconds (2), degrees (2), N or S, minutes, seconds; each number a whole number.
use Rattle.std.specs.Prelude.{ℕ, ◌+◌, ◌*◌, ◌/◌, ◌%◌, Bool, false, cond, ◌&&◌, ◌||◌, List, [], ◌∷◌, ◌++◌, get_or, take, drop, leb, ℤ, nat_abs, Result, Ok, Err}
use Prim.Native.Char.{Char, code}
use Prim.Native.String.{String}
use Rattle.columns.specs.Sets.{is, among}
use Rattle.columns.specs.Texts.{sized}
use Rattle.flaws.specs.Flaws.{unread}
use Rattle.flaws.specs.declared.Flaw.{Flaw}
use Rattle.flaws.specs.declared.Flaw.TheVariants as flaw
use Rattle.numerals.specs.Numbers.{whole_of, whole_filled, admits_whole, amount, with_sign, is_negative, spell_digits}
use Rattle.positions.specs.declared.Position.{Position}

-- Whole numbers from column i on, w columns wide.
abbrev pub whole_at : ℕ → ℕ → List ℕ → ℕ
whole_at i w p = amount (whole_of (take w (drop i p)))

-- A whole number stands there, and is at most the given one.
abbrev pub whole_there : ℕ → ℕ → ℕ → List ℕ → Bool
whole_there most i w p = whole_filled (whole_of (take w (drop i p))) && leb (whole_at i w p) most

-- One half of 4C has degrees in d columns, a letter, and minutes and seconds in two columns each: its seconds in all.
unfoldable pub arc_seconds : ℕ → List ℕ → ℕ
arc_seconds d p = 3600 * whole_at 0 d p + 60 * whole_at (d + 1) 2 p + whole_at (d + 3) 2 p

-- Minutes and seconds at most 59, and no more degrees in all than the given ones.
unfoldable pub arc_good : ℕ → String → ℕ → List ℕ → Bool
arc_good d letters degrees p =
    whole_there degrees 0 d p
    && among letters (get_or p d 0)
    && whole_there 59 (d + 1) 2 p
    && whole_there 59 (d + 3) 2 p
    && leb (arc_seconds d p) (3600 * degrees)

-- The signed count of seconds.
unfoldable pub arc_of : ℕ → Char → List ℕ → ℤ
arc_of d minus p = with_sign (is minus (get_or p d 0)) (arc_seconds d p)

-- The rule on the columns: longitude at most 180 degrees in all, latitude at most 90.
unfoldable pub position_good : List ℕ → Bool
position_good p = sized 15 p && arc_good 3 "EW" 180 (take 8 p) && arc_good 2 "NS" 90 (drop 8 p)

-- The value that they say: two signed counts of seconds, east and north positive.
unfoldable pub position_of : List ℕ → Position
position_of p = record { east = arc_of 3 "W" (take 8 p); north = arc_of 2 "S" (drop 8 p) }

-- The bytes that 4C admits.
unfoldable pub admits_position : ℕ → Bool
admits_position c = admits_whole false c || among "EW" c || among "NS" c

-- It can be read, in its range or not: six whole numbers and two letters stand in their columns.
abbrev pub whole_reads : ℕ → ℕ → List ℕ → Bool
whole_reads i w p = whole_filled (whole_of (take w (drop i p)))

unfoldable pub arc_reads : ℕ → String → List ℕ → Bool
arc_reads d letters p = whole_reads 0 d p && among letters (get_or p d 0) && whole_reads (d + 1) 2 p && whole_reads (d + 3) 2 p

unfoldable pub position_reads : List ℕ → Bool
position_reads p = sized 15 p && arc_reads 3 "EW" (take 8 p) && arc_reads 2 "NS" (drop 8 p)

-- What is wrong with what is no place: what can be read is not on the ground, anything else has the flaw of its bytes.
unfoldable pub unread_position : List ℕ → Flaw
unread_position p = cond (position_reads p) flaw.Range (unread admits_position p)

-- All in one answer.
unfoldable pub located_of : List ℕ → Result Position Flaw
located_of p = cond (position_good p) (Ok (position_of p)) (Err (unread_position p))

-- The rule on a typed value.
unfoldable pub position_fits : Position → Bool
position_fits v = leb (nat_abs v.east) 648000 && leb (nat_abs v.north) 324000

-- The spelling of one half: zero seconds are E and N.
unfoldable pub spell_arc : ℕ → Char → Char → ℤ → List ℕ
spell_arc d plus minus z =
    let n = nat_abs z in
    spell_digits d (n / 3600) (cond (is_negative z) (code minus) (code plus) ∷ spell_digits 2 (n / 60 % 60) (spell_digits 2 (n % 60) []))

-- The spelling.
unfoldable pub spell_position : Position → List ℕ
spell_position v = spell_arc 3 "E" "W" v.east ++ spell_arc 2 "N" "S" v.north
