-- 4C that holds the one spelling of what it says: one half over its width and letters, then both.
use mathlib.Core.Path.{◌≡◌, refl, sym, ap, ◌∙◌}
use mathlib.Core.Bool.{true, false, ◌&&◌}
use mathlib.Core.List.{List, [], ◌∷◌, ◌++◌, append-nil}
use Prim.Native.Char.{Char, code}
use Prim.Native.String.{String}
use Prim.Native.Nat.{ℕ, ◌+◌, ◌*◌, ◌/◌, ◌%◌, ◌≤◌}
use native.Mathlib.Omega.{arith}
use native.Mathlib.Numerals.{add-one}
use lib.Dec.{leb, eqb}
use lib.ListN.{length, get_or, take, drop, length-drop, take-append-drop}
use lib.Seq.{length-take-le, take_all, drop-drop, split_at}
use borrow.Author.Tests.{eqb-true, leb-true}
use Rattle.columns.specs.Sets.{among, is_digit}
use Rattle.columns.specs.Texts.{every, sized}
use Rattle.numerals.specs.Numbers.{number, whole_of, whole_filled, spell_digits}
use Rattle.positions.specs.Positions.{whole_at, whole_there, arc_seconds, arc_good, arc_of, position_good, position_of, spell_arc, spell_position}
use Rattle.columns.proofs.TextLaws.{and_split, every_take, every_drop}
use Rattle.own_numbers.specs.OwnNumbers.{digits_around}
use Rattle.own_numbers.proofs.OwnLaws.{Around, around, digits_own, whole_says}
use Rattle.std.specs.Prelude.{Some, Ok}

-- degrees, minutes and seconds are found in the seconds that they make
apart : (g m s : ℕ) → m ≤ 59 → s ≤ 59 → ((3600 * g + 60 * m + s) / 3600 ≡ g) × ((3600 * g + 60 * m + s) / 60 % 60 ≡ m) × ((3600 * g + 60 * m + s) % 60 ≡ s)
apart g m s h l = (omega arith, omega arith, omega arith)

-- One half that keeps its rule, with digits around the letter of the side that is not below zero.
module _ (d degrees : ℕ) (plus minus : Char) (letters : String) (one : 1 ≤ d) (few : d ≤ 18) (differ : eqb (code plus) (code minus) ≡ false)
    (p : List ℕ) (n : length p ≡ d + 5) (good : arc_good d letters degrees p ≡ true) (h : Around (code plus) d p) where
  abbrev front : List ℕ
  front = take d p

  abbrev rest : List ℕ
  rest = drop (d + 1) p

  abbrev middle : List ℕ
  middle = take 2 rest

  abbrev end : List ℕ
  end = drop 2 rest

  front_length : length front ≡ d
  front_length = length-take-le d p (omega arith)

  rest_length : length rest ≡ 4
  rest_length = length-drop (d + 1) p ∙ omega arith

  middle-length : length middle ≡ 2
  middle-length = length-take-le 2 rest (omega (arith, rest_length))

  end_length : length end ≡ 2
  end_length = length-drop 2 rest ∙ omega (arith, rest_length)

  middle_digits : every is_digit middle ≡ true
  middle_digits = every_take is_digit 2 rest h.back

  end_digits : every is_digit end ≡ true
  end_digits = every_drop is_digit 2 rest h.back

  end_is : take 2 (drop (d + 3) p) ≡ end
  end_is =
      let three : d + 1 + 2 ≡ d + 3 = omega arith in
      ap (λ (k : ℕ). take 2 (drop k p)) (sym three) ∙ ap (take 2) (sym (drop-drop 2 (d + 1) p)) ∙ take_all 2 end (omega (arith, end_length))

  degrees_say : whole_of (take d p) ≡ Ok (Some (number front))
  degrees_say = whole_says front (omega (arith, front_length)) (omega (arith, front_length)) h.front

  minutes_say : whole_of (take 2 (drop (d + 1) p)) ≡ Ok (Some (number middle))
  minutes_say = whole_says middle (omega (arith, middle-length)) (omega (arith, middle-length)) middle_digits

  seconds_say : whole_of (take 2 (drop (d + 3) p)) ≡ Ok (Some (number end))
  seconds_say = ap whole_of end_is ∙ whole_says end (omega (arith, end_length)) (omega (arith, end_length)) end_digits

  -- minutes and seconds are below sixty
  below : (number middle ≤ 59) × (number end ≤ 59)
  unfolding arc_good
  below =
      let m = whole_there 59 (d + 1) 2 p in
      let s = whole_there 59 (d + 3) 2 p in
      let a = and_split (whole_there degrees 0 d p && among letters (get_or p d 0) && m && s) (leb (arc_seconds d p) (3600 * degrees)) good in
      let b = and_split (whole_there degrees 0 d p && among letters (get_or p d 0) && m) s a.0 in
      let e = and_split (whole_there degrees 0 d p && among letters (get_or p d 0)) m b.0 in
      let f = and_split (whole_filled (whole_of (take 2 (drop (d + 1) p)))) (leb (whole_at (d + 1) 2 p) 59) e.1 in
      let g = and_split (whole_filled (whole_of (take 2 (drop (d + 3) p)))) (leb (whole_at (d + 3) 2 p) 59) b.1 in
      (leb-true (number middle) 59 (rw minutes_say at f.1), leb-true (number end) 59 (rw seconds_say at g.1))

  -- the digits are spelled again
  digits_stand : spell_digits d (number front) (code plus ∷ spell_digits 2 (number middle) (spell_digits 2 (number end) [])) ≡ p
  digits_stand =
      let seconds : spell_digits 2 (number end) [] ≡ end = ap (λ (k : ℕ). spell_digits k (number end) []) (sym end_length) ∙ digits_own end 0 [] end_digits ∙ append-nil end in
      let minutes : spell_digits 2 (number middle) end ≡ middle ++ end = ap (λ (k : ℕ). spell_digits k (number middle) end) (sym middle-length) ∙ digits_own middle 0 end middle_digits in
      let split : p ≡ front ++ (code plus ∷ rest) = split_at p d 0 (omega arith) ∙ rw (h.mark_is, add-one d) in
      rw (seconds, minutes, take-append-drop 2 rest)
      (ap (λ (k : ℕ). spell_digits k (number front) (code plus ∷ rest)) (sym front_length) ∙ digits_own front 0 (code plus ∷ rest) h.front ∙ sym split)

  -- so that the half is its own spelling
  arc_own : spell_arc d plus minus (arc_of d minus p) ≡ p
  unfolding spell_arc arc_of arc_seconds
  arc_own =
      let a = apart (number front) (number middle) (number end) below.0 below.1 in
      rw (h.mark_is, differ, degrees_say, minutes_say, seconds_say, a.0, a.1, a.2) digits_stand

-- 4C that keeps its rule has its columns.
pub position_wide : (p : List ℕ) → position_good p ≡ true → length p ≡ 15
unfolding position_good
position_wide p good =
    let h = and_split (sized 15 p && arc_good 3 "EW" 180 (take 8 p)) (arc_good 2 "NS" 90 (drop 8 p)) good in
    eqb-true (length p) 15 (and_split (sized 15 p) (arc_good 3 "EW" 180 (take 8 p)) h.0).0

-- 4C that keeps its rule, east and north, with digits in all its places, is its own spelling.
pub position_own : (p : List ℕ) → position_good p ≡ true → digits_around 69 3 (take 8 p) ≡ true → digits_around 78 2 (take 7 (drop 8 p)) ≡ true → spell_position (position_of p) ≡ p
unfolding position_good position_of spell_position
position_own p good e f =
    let h = and_split (sized 15 p && arc_good 3 "EW" 180 (take 8 p)) (arc_good 2 "NS" 90 (drop 8 p)) good in
    let g = and_split (sized 15 p) (arc_good 3 "EW" 180 (take 8 p)) h.0 in
    let l : length p ≡ 15 = eqb-true (length p) 15 g.0 in
    let l₁ : length (take 8 p) ≡ 3 + 5 = length-take-le 8 p (omega arith) in
    let l₂ : length (drop 8 p) ≡ 2 + 5 = length-drop 8 p ∙ omega arith in
    let f' : digits_around 78 2 (drop 8 p) ≡ true = rw (take_all 7 (drop 8 p) (omega arith)) at f in
    rw (
      arc_own 3 180 "E" "W" "EW" (omega arith) (omega arith) refl (take 8 p) l₁ g.1 (around 69 3 (take 8 p) e),
      arc_own 2 90 "N" "S" "NS" (omega arith) (omega arith) refl (drop 8 p) l₂ h.1 (around 78 2 (drop 8 p) f'),
    )
    (take-append-drop 8 p)
