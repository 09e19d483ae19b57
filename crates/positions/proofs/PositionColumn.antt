-- 4C reads back what it writes, and writes what it reads: one half over its width, its letters and its degrees, then both.
use mathlib.Core.Path.{◌≡◌, refl, sym, ap, ◌∙◌}
use mathlib.Core.Bool.{Bool, true, false, cond, ◌&&◌}
use mathlib.Core.List.{List, [], ◌∷◌, ◌++◌}
use Prim.Native.Char.{Char, code}
use Prim.Native.String.{String}
use Prim.Native.Nat.{ℕ, ◌+◌, ◌*◌, ◌/◌, ◌%◌, ◌^◌, ◌≤◌, ◌<◌}
use native.Mathlib.Omega.{arith}
use lib.Dec.{leb, eqb}
use lib.ListN.{length, get_or, take, drop, length-append}
use lib.Seq.{take_at, drop_at, drop-drop, get_or_at, take_all}
use lib.IntN.{ℤ, pos, negsuc, nat_abs}
use borrow.Author.Tests.{eq-eqb, leb-true, le-leb}
use Rattle.columns.specs.Sets.{is, among}
use Rattle.columns.specs.Texts.{sized}
use Rattle.numerals.specs.Numbers.{whole_of, with_sign, is_negative, spell_digits, spell_whole}
use Rattle.columns.proofs.TextLaws.{and_split, and_both}
use Rattle.numerals.proofs.Signs.{nat_abs_neg}
use Rattle.numerals.proofs.RoundTrip.{spelled_front, spelled_length, whole_trip}
use Rattle.columns.proofs.ColumnLaws.{Column}
use Rattle.positions.specs.Positions.{whole_there, arc_seconds, arc_good, arc_of, position_good, position_of, position_fits, spell_arc, spell_position}
use Rattle.positions.specs.declared.Position.{Position}
use Rattle.std.specs.Prelude.{Some, Ok}

-- hours of arc have sixty minutes of sixty seconds
seconds_again : (n : ℕ) → 3600 * (n / 3600) + 60 * (n / 60 % 60) + n % 60 ≡ n
seconds_again n = omega arith

whole_length : (k v : ℕ) → length (spell_whole k v) ≡ k
whole_length k v = spelled_length k v [] ∙ omega arith

-- One half of 4C in the one spelling, taken apart again.
module _ (d : ℕ) (plus minus : Char) (z : ℤ) where
  letter : ℕ
  letter = cond (is_negative z) (code minus) (code plus)

  degrees_part : List ℕ
  degrees_part = spell_whole d (nat_abs z / 3600)

  minutes_part : List ℕ
  minutes_part = spell_whole 2 (nat_abs z / 60 % 60)

  seconds_part : List ℕ
  seconds_part = spell_whole 2 (nat_abs z % 60)

  arc_parts : spell_arc d plus minus z ≡ degrees_part ++ (letter ∷ (minutes_part ++ seconds_part))
  unfolding spell_arc letter degrees_part minutes_part seconds_part
  arc_parts =
      spelled_front d (nat_abs z / 3600) (letter ∷ spell_digits 2 (nat_abs z / 60 % 60) (spell_digits 2 (nat_abs z % 60) []))
      ∙ ap (λ (l : List ℕ). spell_whole d (nat_abs z / 3600) ++ (letter ∷ l)) (spelled_front 2 (nat_abs z / 60 % 60) (spell_digits 2 (nat_abs z % 60) []))

  arc_length : length (spell_arc d plus minus z) ≡ d + 5
  unfolding spell_arc
  arc_length = simp spelled_length (omega arith)

  rest_at : drop (d + 1) (spell_arc d plus minus z) ≡ minutes_part ++ seconds_part
  unfolding letter degrees_part minutes_part seconds_part
  rest_at =
      ap (drop (d + 1)) arc_parts
      ∙ sym (drop-drop 1 d (spell_whole d (nat_abs z / 3600) ++ (letter ∷ (minutes_part ++ seconds_part))))
      ∙ ap (drop 1) (drop_at (spell_whole d (nat_abs z / 3600)) (letter ∷ (minutes_part ++ seconds_part)) d (whole_length d (nat_abs z / 3600)))

  degrees_at : take d (spell_arc d plus minus z) ≡ spell_whole d (nat_abs z / 3600)
  unfolding letter degrees_part minutes_part seconds_part
  degrees_at = ap (take d) arc_parts ∙ take_at (spell_whole d (nat_abs z / 3600)) (letter ∷ (minutes_part ++ seconds_part)) d (whole_length d (nat_abs z / 3600))

  letter_at : get_or (spell_arc d plus minus z) d 0 ≡ cond (is_negative z) (code minus) (code plus)
  unfolding letter degrees_part minutes_part seconds_part
  letter_at = ap (λ (l : List ℕ). get_or l d 0) arc_parts ∙ get_or_at (spell_whole d (nat_abs z / 3600)) letter (minutes_part ++ seconds_part) 0 d (whole_length d (nat_abs z / 3600))

  minutes_at : take 2 (drop (d + 1) (spell_arc d plus minus z)) ≡ spell_whole 2 (nat_abs z / 60 % 60)
  unfolding minutes_part seconds_part
  minutes_at = ap (take 2) rest_at ∙ take_at (spell_whole 2 (nat_abs z / 60 % 60)) (spell_whole 2 (nat_abs z % 60)) 2 (whole_length 2 (nat_abs z / 60 % 60))

  seconds_at : take 2 (drop (d + 3) (spell_arc d plus minus z)) ≡ spell_whole 2 (nat_abs z % 60)
  unfolding minutes_part seconds_part
  seconds_at =
      let m = spell_whole 2 (nat_abs z / 60 % 60) in
      let s = spell_whole 2 (nat_abs z % 60) in
      let two : d + 1 + 2 ≡ d + 3 = omega arith in
      ap (take 2) (ap (λ (n : ℕ). drop n (spell_arc d plus minus z)) (sym two) ∙ sym (drop-drop 2 (d + 1) (spell_arc d plus minus z)) ∙ ap (drop 2) rest_at ∙ drop_at m s 2 (whole_length 2 (nat_abs z / 60 % 60)))
      ∙ take_all 2 s (omega (arith, whole_length 2 (nat_abs z % 60)))

-- What a half needs to be told apart: its degrees have their columns, and its two letters differ.
record Half (d degrees : ℕ) (plus minus : Char) (letters : String) : Type 0 where
  one : 1 ≤ d
  few : d ≤ 18
  room : degrees < 10 ^ d
  has_plus : among letters (code plus) ≡ true
  has_minus : among letters (code minus) ≡ true
  differ : eqb (code plus) (code minus) ≡ false

module _ (d degrees : ℕ) (plus minus : Char) (letters : String) (h : Half d degrees plus minus letters) where
  -- the seconds in all are those that were spelled
  module _ (z : ℤ) (l : nat_abs z ≤ 3600 * degrees) where
    degrees_say : whole_of (take d (spell_arc d plus minus z)) ≡ Ok (Some (nat_abs z / 3600))
    degrees_say = ap whole_of (degrees_at d plus minus z) ∙ whole_trip d (nat_abs z / 3600) h.one h.few (omega (arith, h.room))

    minutes_say : whole_of (take 2 (drop (d + 1) (spell_arc d plus minus z))) ≡ Ok (Some (nat_abs z / 60 % 60))
    minutes_say = ap whole_of (minutes_at d plus minus z) ∙ whole_trip 2 (nat_abs z / 60 % 60) (omega arith) (omega arith) (omega arith)

    seconds_say : whole_of (take 2 (drop (d + 3) (spell_arc d plus minus z))) ≡ Ok (Some (nat_abs z % 60))
    seconds_say = ap whole_of (seconds_at d plus minus z) ∙ whole_trip 2 (nat_abs z % 60) (omega arith) (omega arith) (omega arith)

    arc_seconds_lem : arc_seconds d (spell_arc d plus minus z) ≡ nat_abs z
    unfolding arc_seconds
    arc_seconds_lem = rw (degrees_say, minutes_say, seconds_say) (seconds_again (nat_abs z))

    letter_known : among letters (cond (is_negative z) (code minus) (code plus)) ≡ true
    letter_known = by (is_negative z) where
      by : (b : Bool) → among letters (cond b (code minus) (code plus)) ≡ true
      by true = h.has_minus
      by false = h.has_plus

    arc_kept : arc_good d letters degrees (spell_arc d plus minus z) ≡ true
    unfolding arc_good
    arc_kept =
        rw (
          degrees_say,
          minutes_say,
          seconds_say,
          letter_at d plus minus z,
          letter_known,
          arc_seconds_lem,
          le-leb (nat_abs z / 3600) degrees (omega arith),
          le-leb (nat_abs z / 60 % 60) 59 (omega arith),
          le-leb (nat_abs z % 60) 59 (omega arith),
          le-leb (nat_abs z) (3600 * degrees) l,
        )

    arc_back : arc_of d minus (spell_arc d plus minus z) ≡ z
    unfolding arc_of
    arc_back = rw (letter_at d plus minus z, arc_seconds_lem) (by z) where
      by : (z : ℤ) → with_sign (eqb (cond (is_negative z) (code minus) (code plus)) (code minus)) (nat_abs z) ≡ z
      by (pos n) = rw h.differ
      by (negsuc n) = rw (eq-eqb (code minus) (code minus) refl)

  -- what is read is no more than the degrees in all
  arc_read : (p : List ℕ) → arc_good d letters degrees p ≡ true → nat_abs (arc_of d minus p) ≤ 3600 * degrees
  unfolding arc_good arc_of
  arc_read p e =
      let n = arc_seconds d p in
      let most : n ≤ 3600 * degrees = leb-true n (3600 * degrees) (and_split (whole_there degrees 0 d p && among letters (get_or p d 0) && whole_there 59 (d + 1) 2 p && whole_there 59 (d + 3) 2 p) (leb n (3600 * degrees)) e).1 in
      rw (nat_abs_with (is minus (get_or p d 0)) n) most where
        nat_abs_with : (b : Bool) (n : ℕ) → nat_abs (with_sign b n) ≡ n
        nat_abs_with true n = nat_abs_neg (pos n)
        nat_abs_with false n = refl

east : Half 3 180 "E" "W" "EW"
unfolding among
east = record { one = omega arith; few = omega arith; room = omega arith; has_plus = refl; has_minus = refl; differ = refl }

north : Half 2 90 "N" "S" "NS"
unfolding among
north = record { one = omega arith; few = omega arith; room = omega arith; has_plus = refl; has_minus = refl; differ = refl }

-- the bounds of a typed position
bounds : (v : Position) → position_fits v ≡ true → (nat_abs v.east ≤ 3600 * 180) × (nat_abs v.north ≤ 3600 * 90)
unfolding position_fits
bounds v e =
    let h = and_split (leb (nat_abs v.east) 648000) (leb (nat_abs v.north) 324000) e in
    (leb-true (nat_abs v.east) 648000 h.0, leb-true (nat_abs v.north) 324000 h.1)

-- both halves of what is spelled
halves : (v : Position) → (take 8 (spell_position v) ≡ spell_arc 3 "E" "W" v.east) × (drop 8 (spell_position v) ≡ spell_arc 2 "N" "S" v.north)
unfolding spell_position
halves v =
    let n = arc_length 3 "E" "W" v.east in
    (take_at (spell_arc 3 "E" "W" v.east) (spell_arc 2 "N" "S" v.north) 8 n, drop_at (spell_arc 3 "E" "W" v.east) (spell_arc 2 "N" "S" v.north) 8 n)

position_wide : (v : Position) → length (spell_position v) ≡ 15
unfolding spell_position
position_wide v = length-append (spell_arc 3 "E" "W" v.east) (spell_arc 2 "N" "S" v.north) ∙ rw (arc_length 3 "E" "W" v.east, arc_length 2 "N" "S" v.north)

position_kept : (v : Position) → position_fits v ≡ true → position_good (spell_position v) ≡ true
unfolding position_good
position_kept v e =
    let b = bounds v e in
    let s = halves v in
    rw (s.0, s.1, eq-eqb (length (spell_position v)) 15 (position_wide v), arc_kept 3 180 "E" "W" "EW" east v.east b.0, arc_kept 2 90 "N" "S" "NS" north v.north b.1)

position_back : (v : Position) → position_fits v ≡ true → position_of (spell_position v) ≡ v
unfolding position_of
position_back v e =
    let b = bounds v e in
    let s = halves v in
    rw (s.0, s.1, arc_back 3 180 "E" "W" "EW" east v.east b.0, arc_back 2 90 "N" "S" "NS" north v.north b.1)

position_read : (p : List ℕ) → position_good p ≡ true → position_fits (position_of p) ≡ true
unfolding position_good position_of position_fits
position_read p e =
    let h = and_split (sized 15 p && arc_good 3 "EW" 180 (take 8 p)) (arc_good 2 "NS" 90 (drop 8 p)) e in
    let g = and_split (sized 15 p) (arc_good 3 "EW" 180 (take 8 p)) h.0 in
    let x = arc_of 3 "W" (take 8 p) in
    let y = arc_of 2 "S" (drop 8 p) in
    and_both (leb (nat_abs x) 648000) (leb (nat_abs y) 324000)
    (le-leb (nat_abs x) 648000 (arc_read 3 180 "E" "W" "EW" east (take 8 p) g.1))
    (le-leb (nat_abs y) 324000 (arc_read 2 90 "N" "S" "NS" north (drop 8 p) h.1))

pub position_column : Column 15 position_good position_of position_fits spell_position
position_column = record { wide = λ v e. position_wide v; kept = position_kept; back = position_back; read = λ p l e. position_read p e }
