-- Document 01, "Station rules, by code" and "Header codes": the kinds of field, and what each means, said once for all fields of the kind.
use Rattle.std.specs.Prelude.{ℕ, suc, ◌-◌, Bool, true, false, not, ◌&&◌, List, [], ◌∷◌, replicate, ℤ, pos, Option, None}
use Prim.Native.Char.{Char, code}
use Prim.Native.String.{String}
use Rattle.columns.specs.Texts.{bytes, head, blank, trimmed, every, each, byte_good, same, one_of, sized, text_good}
use Rattle.numerals.specs.Numbers.{whole_of, whole_filled, whole_fits, spell_whole}
use Rattle.numerals.specs.Numbers as numbers
use Rattle.days.specs.Dates.{date_good, date_fits, day_good, day_of, day_fits, spell_day}
use Rattle.basics.specs.Fields.{at}
use Rattle.frequencies.specs.Frequencies.{above_zero, amount_good, unit_good, frequency_of, frequency_fits, spell_amount, spell_unit}
use Rattle.formats.specs.Tenths.{any_number, tenths_good, tenths_of, tenths_fit, spell_tenths}
use Rattle.distances.specs.Distances.{radius_of, radius_fits, spell_radius, ground_of, ground_fits, spell_ground, height_range, height_good, height_of, height_fits, spell_height}
use Rattle.positions.specs.Positions.{position_good, position_of, position_fits, spell_position}
use Rattle.emissions.specs.Emission.{emission_good}
use Rattle.remarks.specs.Remarks.{remarks_good}
use Rattle.serials.specs.Serials.{serial_good, serial_of, serial_fits, spell_serial}
use Rattle.frequencies.specs.declared.Frequency.{Frequency}

-- The rules of texts that are all spaces in an empty record.
pub data TextRule : Type 0 where
  places : List (ℕ → Bool) → TextRule  -- a test for each place
  word : (ℕ → Bool) → TextRule  -- bytes of a set, one at least, then spaces
  left_text : (ℕ → Bool) → TextRule  -- bytes of a set, left-justified, or blank
  literal : String → TextRule  -- always this
  emission : TextRule  -- 7A

-- The kinds of field.
pub data Kind : Type 0 where
  amount : Kind  -- a frequency without its unit, or blank: decimal 5/5, above zero
  unit : Kind  -- the unit of the field before it: k, M or G if that is filled, else blank
  byte : Char → (ℕ → Bool) → Kind  -- one byte of a set, in an empty record the one given
  choice : List String → Kind  -- one of these, in an empty record the first
  text : TextRule → Kind
  dropped : TextRule → Kind  -- a text that is judged and not kept: it says no value, and spaces are written for it
  remarks : Kind  -- 13Z
  date : Kind
  date_or_blank : Kind
  tenths : ℕ → Bool → (ℤ → Bool) → Kind  -- so many digits before the point and one behind it, signed or not, in a range, or blank
  kilometres : Kind  -- whole, filled
  metres : Kind  -- whole, filled
  metres_or_blank : Kind  -- whole, signed, -999 to 9999, or blank
  position : Kind  -- 4C
  whole : Kind  -- whole, filled
  whole_or_blank : Kind

abbrev pub signed : Bool
signed = true

abbrev pub unsigned : Bool
unsigned = false

-- What a kind means: the type of its values; of a record's fields and a field's number its rule and the value that it says; of a typed value its
-- rule and its spelling; its value in an empty record; the range of its number.
pub record Meaning : Type 1 where
  pub Value : Type 0
  pub good : List (List ℕ) → ℕ → Bool
  pub value : List (List ℕ) → ℕ → Value
  pub fits : Value → Bool
  pub spelt : Value → List ℕ
  pub empty : Value
  pub range : ℤ → Bool

-- A kind whose fields say a value by themselves, in a range,
abbrev pub ranged : {A : Type 0} → (ℤ → Bool) → (List ℕ → Bool) → (List ℕ → A) → (A → Bool) → (A → List ℕ) → A → Meaning
ranged {A} range good value fits spelt empty =
    record { Value = A; good = λ f k. good (at f k); value = λ f k. value (at f k); fits = fits; spelt = spelt; empty = empty; range = range }

-- or in none,
abbrev pub alone : {A : Type 0} → (List ℕ → Bool) → (List ℕ → A) → (A → Bool) → (A → List ℕ) → A → Meaning
alone good value fits spelt empty = ranged any_number good value fits spelt empty

-- and one that is kept as its bytes.
abbrev pub kept : (List ℕ → Bool) → List ℕ → Meaning
kept good empty = alone good (λ p. p) good (λ p. p) empty

-- The rule of a text in w columns.
abbrev pub text_keeps : TextRule → ℕ → List ℕ → Bool
text_keeps (places tests) w p = each tests p
text_keeps (word set) w p = sized w p && (not (blank p) && every set (trimmed p))
text_keeps (left_text set) w p = text_good w set p
text_keeps (literal x) w p = same (bytes x) p
text_keeps emission w p = emission_good p

-- The first of some literals.
abbrev pub first_of : List String → List ℕ
first_of [] = []
first_of (x ∷ xs) = bytes x

-- What each kind means in w columns. A typed unit always has its letter. In an empty record numbers are 0, choices the first listed, dates and
-- optional values blank, text all spaces.
abbrev pub meaning : Kind → ℕ → Meaning
meaning amount w = record {
  Value = Option Frequency;
  good = λ f k. amount_good (at f k);
  value = λ f k. frequency_of (at f k) (at f (suc k));
  fits = frequency_fits;
  spelt = spell_amount;
  empty = None;
  range = above_zero;
}
meaning unit w = record {
  Value = Option Frequency;
  good = λ f k. unit_good (at f (k - 1)) (at f k);
  value = λ f k. frequency_of (at f (k - 1)) (at f k);
  fits = λ v. true;
  spelt = spell_unit;
  empty = None;
  range = any_number;
}
meaning (byte first set) w = alone (byte_good set) head set (λ c. c ∷ []) (code first)
meaning (choice xs) w = kept (one_of xs) (first_of xs)
meaning (text rule) w = kept (text_keeps rule w) (replicate w 32)
meaning (dropped rule) w = alone {A = Unit {0}} (text_keeps rule w) (λ p. tt) (λ v. true) (λ v. replicate w 32) tt
meaning remarks w = kept remarks_good (replicate w 32)
meaning date w = alone date_good day_of date_fits spell_day None
meaning date_or_blank w = alone day_good day_of day_fits spell_day None
meaning (tenths a sign range) w = ranged range (tenths_good a 1 sign range) (tenths_of a 1 sign) (tenths_fit a 1 sign range) (spell_tenths a 1 sign) None
meaning kilometres w = alone (λ p. whole_filled (whole_of p)) radius_of radius_fits spell_radius (record { 0 = 0 })
meaning metres w = alone (λ p. whole_filled (whole_of p)) ground_of ground_fits spell_ground (record { 0 = pos 0 })
meaning metres_or_blank w = ranged height_range height_good height_of height_fits spell_height None
meaning position w = alone position_good position_of position_fits spell_position (record { east = pos 0; north = pos 0 })
meaning whole w = alone (λ p. whole_filled (whole_of p)) (λ p. numbers.amount (whole_of p)) (whole_fits w) (spell_whole w) 0
meaning whole_or_blank w = alone serial_good serial_of serial_fits spell_serial None
