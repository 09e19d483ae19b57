-- Document 01, "Station rules, by code": the thirty fields of a station, a line for each row of the paper's table. A field's number is its code.
use Rattle.std.specs.Prelude.{ℕ, ◌-◌, ◌≡◌, refl, Bool, true, not, ◌&&◌, ◌||◌, List, [], ◌∷◌, ◌++◌, replicate, ℤ}
use Rattle.columns.specs.Sets.{is, between, among, is_digit, is_upper, is_narrow, is_name}
use Rattle.columns.specs.Texts.{exactly}
use Rattle.formats.specs.declared.Format.{Format}
use Rattle.formats.specs.declared.Format.TheVariants as format
use Rattle.basics.specs.Fields.{tiles_from}
use Rattle.formats.specs.Tenths.{any_number, up_to}
use Rattle.fields.specs.Kinds.{signed, unsigned, amount, unit, byte, choice, text, places, word, emission, remarks, date_or_blank, tenths, kilometres, metres, metres_or_blank, position, Meaning}
use Rattle.fields.specs.Rows.{Row, field, meant, row_behind, places_of}

-- A letter of 6Z: A-Z, J never.
abbrev pub is_user : ℕ → Bool
is_user c = is_upper c && not (is "J" c)

abbrev pub station_table : List Row
station_table =
    field "1A" 1 11 amount ∷
    field "unit of 1A" 12 1 unit ∷
    field "1Z" 13 1 (byte "1" (between "1" "8")) ∷
    field "6A" 14 2 (choice ("FB" ∷ "FL" ∷ "ML" ∷ [])) ∷
    field "6B" 16 2 (choice ("CO" ∷ "CP" ∷ "CR" ∷ "CV" ∷ "OT" ∷ [])) ∷
    field "6Z" 18 2 (text (places (is_user ∷ (λ c. is_user c || is " " c) ∷ []))) ∷
    field "10Z" 20 1 (byte "0" (among "01")) ∷
    field "2C" 21 8 date_or_blank ∷
    field "4A" 29 20 (text (places (replicate 4 is_digit ++ (exactly "_" ++ replicate 15 is_name)))) ∷
    field "4B" 49 3 (text (word is_upper)) ∷
    field "4C" 52 15 position ∷
    field "4D" 67 5 kilometres ∷
    field "4Z" 72 4 metres_or_blank ∷
    field "7A" 76 9 (text emission) ∷
    field "8B1" 85 6 (tenths 3 signed any_number) ∷
    field "8B2" 91 1 (byte "E" (among "EI")) ∷
    field "9A" 92 5 (tenths 3 unsigned (up_to 3599)) ∷
    field "9B" 97 5 (tenths 2 signed (up_to 900)) ∷
    field "9D" 102 2 (choice ("H " ∷ "V " ∷ "SR" ∷ "SL" ∷ "CR" ∷ "CL" ∷ "D " ∷ "M " ∷ [])) ∷
    field "9G" 104 4 (tenths 2 unsigned any_number) ∷
    field "9Y" 108 4 metres ∷
    field "9XH" 112 7 (text (places (replicate 3 is_digit ++ (replicate 2 is_upper ++ replicate 2 is_digit)))) ∷
    field "9XV" 119 7 (text (places (replicate 3 is_digit ++ (replicate 2 is_upper ++ replicate 2 is_digit)))) ∷
    field "1Y" 126 11 amount ∷
    field "unit of 1Y" 137 1 unit ∷
    field "13Z" 138 50 remarks ∷
    field "13Y" 188 1 (byte "F" (among "FB")) ∷
    field "2W" 189 8 date_or_blank ∷
    field "2Z" 197 8 date_or_blank ∷
    field "13X" 205 15 (text (places (exactly "AUT" ++ (replicate 4 is_digit ++ (replicate 5 is_narrow ++ replicate 3 is_digit))))) ∷
    []

-- The fields cover columns 1 to 219 once.
pub table_tiles : tiles_from 1 (places_of station_table) ≡ true
table_tiles = refl

-- What the row of code k means,
abbrev pub meant_at : ℕ → Meaning
meant_at k = meant (row_behind station_table (k - 1))

-- and its rule on a typed value.
abbrev pub fits_at : (k : ℕ) → (meant_at k).Value → Bool
fits_at k v = (meant_at k).fits v

-- The ranges of the decimals' formats.
abbrev pub range_of : Format → ℤ → Bool
range_of format.Frequency = any_number
range_of format.Power = (meant_at 15).range
range_of format.Azimuth = (meant_at 17).range
range_of format.Elevation = (meant_at 18).range
range_of format.Gain = (meant_at 20).range
