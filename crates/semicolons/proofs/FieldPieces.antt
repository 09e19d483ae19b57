-- Each kind of field of a station is spelled with its spaces on its padding side and without a mark.
use mathlib.Core.Path.{◌≡◌, refl, sym, ap, ◌∙◌}
use mathlib.Core.Bool.{Bool, true, false, cond, not, ◌&&◌, false≢true, and-true}
use mathlib.Core.List.{List, [], ◌∷◌}
use Prim.Native.Char.{Char, code}
use Prim.Native.String.{String}
use Prim.Native.Nat.{ℕ, suc, ◌/◌, ◌%◌, ◌^◌}
use native.Mathlib.Omega.{arith}
use lib.Dec.{eqb}
use lib.ListN.{length, replicate, length-replicate}
use lib.IntN.{ℤ, pos, negsuc, nat_abs}
use borrow.Author.Tests.{eqb-true}
use Rattle.columns.specs.Sets.{is}
use Rattle.columns.specs.Texts.{bytes, head, every, each, same, one_of}
use Rattle.numerals.specs.Numbers.{spell_digits, spell_whole, spell_signed, is_negative}
use Rattle.decimals.specs.Decimals.{spell_magnitude, spell_decimal, decimal_width}
use Rattle.days.specs.Dates.{spell_date, spell_day}
use Rattle.columns.proofs.TextLaws.{and_split, and_both}
use Rattle.numerals.proofs.RoundTrip.{spelled_length}
use Rattle.decimals.proofs.DecimalTrip.{decimal-length}
use Rattle.columns.proofs.ColumnLaws.{either}
use Rattle.formats.specs.Tenths.{spell_tenths}
use Rattle.frequencies.specs.Frequencies.{spell_amount, spell_unit, unit_letter}
use Rattle.distances.specs.Distances.{spell_radius, spell_ground, spell_height}
use Rattle.positions.specs.Positions.{position_fits, spell_arc, spell_position}
use Rattle.frequencies.specs.declared.Hertz.{Hertz}
use Rattle.frequencies.specs.declared.Hertz.TheVariants as hertz
use Rattle.frequencies.specs.declared.Frequency.{Frequency}
use Rattle.distances.specs.declared.Kilometres.{Kilometres}
use Rattle.distances.specs.declared.Metres.{Metres}
use Rattle.positions.specs.declared.Position.{Position}
use Rattle.positions.proofs.PositionColumn.{position_column}
use Rattle.semicolons.specs.declared.Side.{Side}
use Rattle.semicolons.specs.declared.Side.TheVariants as side
use Rattle.semicolons.proofs.PadLaws.{spaces_stand, head_stands, one_stands}
use Rattle.semicolons.proofs.LineLaws.{plain}
use Rattle.semicolons.proofs.PieceLaws.{Piece, solid, refuses_marks, not_this, plain_byte, every_append, spaces-plain, solid-piece, spaced-piece, solid_digits}
use Rattle.std.specs.Prelude.{Option, Some, None}
use Rattle.days.specs.declared.dates.Date.{Date}

-- blank
pub spaces-piece : (s : Side) (w : ℕ) → Piece s w (replicate w 32)
spaces-piece s w = record { wide = length-replicate w 32; stands = spaces_stand s w; unmarked = spaces-plain w }

-- one byte
pub byte_piece : (test : ℕ → Bool) → refuses_marks test ≡ true → (c : ℕ) → test c ≡ true → Piece side.Right 1 (c ∷ [])
unfolding every
byte_piece test r c e = record { wide = refl; stands = one_stands c; unmarked = and-true (plain c) ∙ plain_byte test r c e }

-- text that begins with no space
abbrev pub opens : List ℕ → Bool
opens p = every plain p && not (is " " (head p))

pub open_piece : (w : ℕ) (p : List ℕ) → length p ≡ w → opens p ≡ true → Piece side.Right w p
open_piece w p n e =
    let h = and_split (every plain p) (not (is " " (head p))) e in
    record { wide = n; stands = head_stands p h.1; unmarked = h.0 }

-- one of some literals, which all pass a test,
abbrev pub all_pass : (List ℕ → Bool) → List String → Bool
all_pass test [] = true
all_pass test (x ∷ xs) = test (bytes x) && all_pass test xs

same_is : (x p : List ℕ) → same x p ≡ true → x ≡ p
unfolding same
same_is [] [] e = refl
same_is [] (c ∷ p) e = absurd (false≢true e)
same_is (x ∷ xs) [] e = absurd (false≢true e)
same_is (x ∷ xs) (c ∷ p) e =
    let h = and_split (eqb c x) (same xs p) e in
    ap (λ (y : ℕ). y ∷ xs) (sym (eqb-true c x h.0)) ∙ ap (λ (l : List ℕ). c ∷ l) (same_is xs p h.1)

pub one_passes : (test : List ℕ → Bool) (xs : List String) (p : List ℕ) → all_pass test xs ≡ true → one_of xs p ≡ true → test p ≡ true
unfolding one_of
one_passes test [] p h e = absurd (false≢true e)
one_passes test (x ∷ xs) p h e =
    let g = and_split (test (bytes x)) (all_pass test xs) h in
    either (same (bytes x) p) (one_of xs p) e (λ f. ap test (sym (same_is (bytes x) p f)) ∙ g.0) (λ f. one_passes test xs p g.1 f)

-- and text with a test for each place
abbrev pub all_refuse : List (ℕ → Bool) → Bool
all_refuse [] = true
all_refuse (test ∷ tests) = refuses_marks test && all_refuse tests

each-plain : (tests : List (ℕ → Bool)) (p : List ℕ) → all_refuse tests ≡ true → each tests p ≡ true → every plain p ≡ true
unfolding each every
each-plain [] [] r e = refl
each-plain [] (c ∷ p) r e = absurd (false≢true e)
each-plain (test ∷ tests) [] r e = absurd (false≢true e)
each-plain (test ∷ tests) (c ∷ p) r e =
    let g = and_split (refuses_marks test) (all_refuse tests) r in
    let h = and_split (test c) (each tests p) e in
    and_both (plain c) (every plain p) (plain_byte test g.0 c h.0) (each-plain tests p g.1 h.1)

each-head : (test : ℕ → Bool) (tests : List (ℕ → Bool)) (p : List ℕ) → not (test 32) ≡ true → each (test ∷ tests) p ≡ true → not (is " " (head p)) ≡ true
unfolding each
each-head test tests [] r e = absurd (false≢true e)
each-head test tests (c ∷ p) r e = rw (not_this test 32 c r (and_split (test c) (each tests p) e).0)

pub each_opens : (test : ℕ → Bool) (tests : List (ℕ → Bool)) (p : List ℕ) → all_refuse (test ∷ tests) ≡ true → not (test 32) ≡ true → each (test ∷ tests) p ≡ true → opens p ≡ true
each_opens test tests p r s e = and_both (every plain p) (not (is " " (head p))) (each-plain (test ∷ tests) p r e) (each-head test tests p s e)

-- ---- numbers

nothing_solid : every solid [] ≡ true
unfolding every
nothing_solid = refl

-- decimals, over both digit counts and the sign
magnitude_solid : (a b v : ℕ) → every solid (spell_magnitude a b v) ≡ true
unfolding spell_magnitude every
magnitude_solid a b v = solid_digits a (v / 10 ^ b) (46 ∷ spell_digits b v []) (solid_digits b v [] refl)

pub decimal-piece : (a b : ℕ) (sign : Bool) (z : ℤ) → Piece side.Left (decimal_width a b sign) (spell_decimal a b sign z)
decimal-piece a b sign z = by sign z (decimal-length a b sign z) where
  signed_one : (m : Bool) (p : List ℕ) (w : ℕ) → suc (length p) ≡ w → every solid p ≡ true → Piece side.Left w (cond m 45 32 ∷ p)
  signed_one true p w n e = solid-piece side.Left w (45 ∷ p) n (unfold every in e)
  signed_one false p w n e = spaced-piece w p n e

  by : (sign : Bool) (z : ℤ) → length (spell_decimal a b sign z) ≡ decimal_width a b sign → Piece side.Left (decimal_width a b sign) (spell_decimal a b sign z)
  by true z n = unfold spell_decimal in signed_one (is_negative z) (spell_magnitude a b (nat_abs z)) (decimal_width a b true) (unfold spell_decimal in n) (magnitude_solid a b (nat_abs z))
  by false z n = solid-piece side.Left (decimal_width a b false) (spell_decimal a b false z) n (unfold spell_decimal in magnitude_solid a b (nat_abs z))

pub tenths_piece : (a b : ℕ) (sign : Bool) (v : Option ℤ) → Piece side.Left (decimal_width a b sign) (spell_tenths a b sign v)
unfolding spell_tenths
tenths_piece a b sign None = spaces-piece side.Left (decimal_width a b sign)
tenths_piece a b sign (Some z) = decimal-piece a b sign z

-- 1A and 1Y, and their units
pub amount-piece : (v : Option Frequency) → Piece side.Left 11 (spell_amount v)
unfolding spell_amount
amount-piece None = spaces-piece side.Left 11
amount-piece (Some f) = decimal-piece 5 5 false (pos f.amount)

letter_solid : (u : Hertz) → every solid (unit_letter u ∷ []) ≡ true
unfolding unit_letter every
letter_solid hertz.Kilo = refl
letter_solid hertz.Mega = refl
letter_solid hertz.Giga = refl

pub unit_piece : (v : Option Frequency) → Piece side.Right 1 (spell_unit v)
unfolding spell_unit
unit_piece None = spaces-piece side.Right 1
unit_piece (Some f) = solid-piece side.Right 1 (unit_letter f.unit ∷ []) refl (letter_solid f.unit)

-- whole numbers
whole-piece : (k v : ℕ) → Piece side.Left k (spell_whole k v)
whole-piece k v = solid-piece side.Left k (spell_whole k v) (spelled_length k v [] ∙ omega arith) (solid_digits k v [] nothing_solid)

pub radius_piece : (v : Kilometres) → Piece side.Left 5 (spell_radius v)
unfolding spell_radius
radius_piece v = whole-piece 5 v.0

pub ground_piece : (v : Metres) → Piece side.Left 4 (spell_ground v)
unfolding spell_ground
ground_piece v = whole-piece 4 (nat_abs v.0)

signed-piece : (z : ℤ) → Piece side.Left 4 (spell_signed 4 z)
unfolding spell_signed every
signed-piece (pos n) = whole-piece 4 n
signed-piece (negsuc n) = solid-piece side.Left 4 (45 ∷ spell_whole 3 (suc n)) (ap suc (spelled_length 3 (suc n) [])) (solid_digits 3 (suc n) [] refl)

pub height_piece : (v : Option Metres) → Piece side.Left 4 (spell_height v)
unfolding spell_height
height_piece None = spaces-piece side.Left 4
height_piece (Some m) = signed-piece m.0

-- dates
pub day_piece : (v : Option Date) → Piece side.Right 8 (spell_day v)
unfolding spell_day spell_date
day_piece None = spaces-piece side.Right 8
day_piece (Some d) =
    solid-piece side.Right 8 (spell_date d) (simp spelled_length)
    (solid_digits 2 d.day (spell_digits 2 d.month (spell_digits 4 d.year [])) (solid_digits 2 d.month (spell_digits 4 d.year []) (solid_digits 4 d.year [] nothing_solid)))

-- 4C
arc_solid : (d : ℕ) (plus minus : Char) (z : ℤ) → solid (code plus) ≡ true → solid (code minus) ≡ true → every solid (spell_arc d plus minus z) ≡ true
unfolding spell_arc every
arc_solid d plus minus z e f =
    let n = nat_abs z in
    let t = spell_digits 2 (n / 60 % 60) (spell_digits 2 (n % 60) []) in
    let s : every solid t ≡ true = solid_digits 2 (n / 60 % 60) (spell_digits 2 (n % 60) []) (solid_digits 2 (n % 60) [] refl) in
    solid_digits d (n / 3600) (cond (is_negative z) (code minus) (code plus) ∷ t) (by (is_negative z) t s)
  where
    by : (b : Bool) (t : List ℕ) → every solid t ≡ true → every solid (cond b (code minus) (code plus) ∷ t) ≡ true
    by true t s = and_both (solid (code minus)) (every solid t) f s
    by false t s = and_both (solid (code plus)) (every solid t) e s

pub position_piece : (v : Position) → position_fits v ≡ true → Piece side.Right 15 (spell_position v)
position_piece v e =
    solid-piece side.Right 15 (spell_position v) (position_column.wide v e)
    (unfold spell_position in every_append solid (spell_arc 3 "E" "W" v.east) (spell_arc 2 "N" "S" v.north) (arc_solid 3 "E" "W" v.east refl refl) (arc_solid 2 "N" "S" v.north refl refl))
