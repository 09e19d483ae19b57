-- Document 02, wish 7: each kind's rule in three parts. Its bytes are admitted, it can be read, and what is read is in range.
use Rattle.std.specs.Prelude.{ℕ, zero, suc, ◌+◌, ◌-◌, ◌*◌, Bool, true, false, cond, not, ◌&&◌, ◌||◌, List, [], ◌∷◌, length, get_or, take, drop, replicate, leb, ℤ, Option, Some, None, Result, Ok, Err}
use Prim.Native.String.{String}
use Rattle.columns.specs.Sets.{is, among, is_digit, is_text}
use Rattle.columns.specs.Texts.{blank, every, each, byte_good, one_of, sized}
use Rattle.numerals.specs.Numbers.{whole_of, whole_filled, admits_whole, signed_of}
use Rattle.decimals.specs.Decimals.{admits_decimal, decimal_of}
use Rattle.days.specs.Dates.{date_reads, date_rule, date_in}
use Rattle.basics.specs.Fields.{at}
use Rattle.frequencies.specs.Frequencies.{above_zero, unit_good}
use Rattle.distances.specs.Distances.{height_range}
use Rattle.positions.specs.Positions.{whole_at, arc_seconds, admits_position, position_reads}
use Rattle.emissions.specs.Emission.{is_modulation, is_signal, is_information, is_detail, is_multiplex}
use Rattle.remarks.specs.Remarks.{remarks_good}
use Rattle.serials.specs.Serials.{serial_good}
use Rattle.fields.specs.Kinds.{TextRule, places, word, left_text, literal, emission, Kind, amount, unit, byte, choice, text, dropped, remarks, date, date_or_blank, tenths, kilometres, metres, metres_or_blank, position, whole, whole_or_blank, Meaning, text_keeps, meaning}
use Rattle.fields.specs.Rows.{Row, Values, row_behind}
use Rattle.fields.specs.Table.{station_table}
use Rattle.flaws.specs.Flaws.{flawless, ranged}
use Rattle.flaws.specs.declared.Flaw.{Flaw}
use Rattle.flaws.specs.declared.Flaw.TheVariants as flaw

-- ---- the bytes that a field admits: those of all its places together, a space only where the rule has one

-- A byte of one of the literals,
unfoldable pub in_some : List String → ℕ → Bool
in_some [] c = false
in_some (x ∷ xs) c = among x c || in_some xs c

-- one that some place takes,
unfoldable pub at_some : List (ℕ → Bool) → ℕ → Bool
at_some [] c = false
at_some (test ∷ tests) c = test c || at_some tests c

-- 7A, whose places have these sets,
abbrev pub emission_sets : List (ℕ → Bool)
emission_sets = is_digit ∷ among "HKMG" ∷ is_modulation ∷ is_signal ∷ is_information ∷ is_detail ∷ is_multiplex ∷ is " " ∷ []

-- and a text, by its rule.
abbrev pub admits_text : TextRule → ℕ → Bool
admits_text (places tests) c = at_some tests c
admits_text (word set) c = set c || is " " c
admits_text (left_text set) c = set c
admits_text (literal x) c = among x c
admits_text emission c = at_some emission_sets c

-- ---- what can be read, in range or not

-- A number, or blank,
abbrev pub number_reads : Result (Option ℤ) Flaw → Bool
number_reads (Err wrong) = false
number_reads (Ok None) = true
number_reads (Ok (Some z)) = true

-- a date or blank; a date and 4C say with their readers what can be read.
unfoldable pub day_reads : List ℕ → Bool
day_reads p = blank p || date_reads p

-- ---- what is read is in range; blank always is

abbrev pub number_within : (ℤ → Bool) → Result (Option ℤ) Flaw → Bool
number_within range (Err wrong) = true
number_within range (Ok None) = true
number_within range (Ok (Some z)) = range z

unfoldable pub date_within : List ℕ → Bool
date_within p = date_rule (date_in p)

unfoldable pub day_within : List ℕ → Bool
day_within p = blank p || date_within p

unfoldable pub arc_within : ℕ → ℕ → List ℕ → Bool
arc_within d degrees p =
    leb (whole_at 0 d p) degrees && leb (whole_at (d + 1) 2 p) 59 && leb (whole_at (d + 3) 2 p) 59 && leb (arc_seconds d p) (3600 * degrees)

unfoldable pub position_within : List ℕ → Bool
position_within p = arc_within 3 180 (take 8 p) && arc_within 2 90 (drop 8 p)

-- ---- the parts of each kind

-- Which bytes a kind admits, whether a field can be read, and whether what is read is in range; a unit's range is asked of the field before it.
pub record Parts : Type 0 where
  pub admits : ℕ → Bool
  pub reads : List ℕ → Bool
  pub within : List ℕ → List ℕ → Bool

-- A kind that has a range of its own,
abbrev pub bounded : (ℕ → Bool) → (List ℕ → Bool) → (List ℕ → Bool) → Parts
bounded admits reads within = record { admits = admits; reads = reads; within = λ before p. within p }

-- a number in a range,
abbrev pub numbered : (ℕ → Bool) → (ℤ → Bool) → (List ℕ → Result (Option ℤ) Flaw) → Parts
numbered admits range number = bounded admits (λ p. number_reads (number p)) (λ p. number_within range (number p))

-- and what is no number, date, place or unit: it is read where it keeps its rule, and never out of range.
abbrev pub plain : (ℕ → Bool) → (List ℕ → Bool) → Parts
plain admits good = bounded admits good (λ p. true)

-- A whole number that is there.
abbrev pub whole_there : List ℕ → Bool
whole_there p = whole_filled (whole_of p)

-- The parts of each kind in w columns. A unit is in range where it agrees with its frequency.
abbrev pub parts : Kind → ℕ → Parts
parts amount w = numbered (admits_decimal false) above_zero (decimal_of 5 5 false)
parts unit w = record { admits = among "kMG "; reads = byte_good (among "kMG "); within = unit_good }
parts (byte first set) w = plain set (byte_good set)
parts (choice xs) w = plain (in_some xs) (one_of xs)
parts (text rule) w = plain (admits_text rule) (text_keeps rule w)
parts (dropped rule) w = plain (admits_text rule) (text_keeps rule w)
parts remarks w = plain is_text remarks_good
parts date w = bounded is_digit date_reads date_within
parts date_or_blank w = bounded (admits_whole false) day_reads day_within
parts (tenths a sign range) w = numbered (admits_decimal sign) range (decimal_of a 1 sign)
parts kilometres w = plain (admits_whole false) whole_there
parts metres w = plain (admits_whole false) whole_there
parts metres_or_blank w = numbered (admits_whole true) height_range signed_of
parts position w = bounded admits_position position_reads position_within
parts whole w = plain (admits_whole false) whole_there
parts whole_or_blank w = plain (admits_whole false) serial_good

-- ---- the flaw of a field, the first that applies

-- Byte, range, shape, in that order, of a field p behind the field before it.
abbrev pub flaw_in : Parts → List ℕ → List ℕ → Flaw
flaw_in part before p =
    cond (not (every part.admits p)) flaw.Byte
    (cond (part.reads p && not (part.within before p)) flaw.Range
    (cond (not (part.reads p)) flaw.Shape flaw.None))

-- Of a field by its row.
abbrev pub flaw_by : Row → List ℕ → List ℕ → Flaw
flaw_by r before p = flaw_in (parts r.kind r.length) before p

-- The flaws of a record's fields f, from field number k on.
abbrev pub flaws_from : ℕ → List Row → List (List ℕ) → List Flaw
flaws_from k [] f = []
flaws_from k (r ∷ rs) f = flaw_by r (at f (k - 1)) (at f k) ∷ flaws_from (suc k) rs f

-- Kinds that are kept as their bytes.
abbrev pub kept_as_bytes : Kind → Bool
kept_as_bytes amount = false
kept_as_bytes unit = false
kept_as_bytes (byte first set) = true
kept_as_bytes (choice xs) = true
kept_as_bytes (text rule) = true
kept_as_bytes (dropped rule) = false
kept_as_bytes remarks = true
kept_as_bytes date = false
kept_as_bytes date_or_blank = false
kept_as_bytes (tenths a sign range) = false
kept_as_bytes kilometres = false
kept_as_bytes metres = false
kept_as_bytes metres_or_blank = false
kept_as_bytes position = false
kept_as_bytes whole = false
kept_as_bytes whole_or_blank = false

-- A typed number, place or date that breaks its rule lies outside its range; typed text is judged as read.
abbrev pub typed_flaw_by : (r : Row) → (meaning r.kind r.length).Value → Flaw
typed_flaw_by r v =
    let m = meaning r.kind r.length in
    cond (kept_as_bytes r.kind) (flaw_by r [] (m.spelt v)) (ranged (m.fits v))

-- The flaws of typed values.
abbrev pub typed_flaws : (t : List Row) → Values t → List Flaw
typed_flaws [] v = []
typed_flaws (r ∷ rs) v = typed_flaw_by r v.0 ∷ typed_flaws rs v.1

-- Which of some fields have no flaw: the rules that a table of fields keeps.
abbrev pub flawless_all : List Flaw → List Bool
flawless_all [] = []
flawless_all (x ∷ xs) = flawless x ∷ flawless_all xs

-- The flaw that comes with a code: 0 has none, a field's code has its field's, and codes above those lie between fields.
abbrev pub flaw_with : List Flaw → ℕ → Flaw
flaw_with flaws zero = flaw.None
flaw_with flaws (suc i) = cond (leb (suc i) (length flaws)) (get_or flaws i flaw.None) flaw.Between

-- Of the station's field number k.
abbrev pub flaw_at : ℕ → List ℕ → List ℕ → Flaw
flaw_at k before p = flaw_by (row_behind station_table (k - 1)) before p
