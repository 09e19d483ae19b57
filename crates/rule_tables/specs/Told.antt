-- Document 02, wish 13: two tables of numbers that say what the station's table and the rules between its fields say.
use Rattle.std.specs.Prelude.{ℕ, suc, ◌-◌, ◌≡◌, Bool, cond, not, ◌&&◌, List, [], ◌∷◌, eqb, take}
use Rattle.columns.specs.Texts.{blank}
use Rattle.basics.specs.Fields.{at}
use Rattle.basics.specs.Rules.{All, first_broken}
use Rattle.fields.specs.Kinds.{Kind, amount, unit, byte, choice, text, dropped, remarks, date, date_or_blank, tenths, kilometres, metres, metres_or_blank, position, whole, whole_or_blank}
use Rattle.fields.specs.Rows.{Row}
use Rattle.fields.specs.Table.{station_table}
use Rattle.flaws.specs.Flaws.{flawless, ranged}
use Rattle.flaws.specs.declared.Flaw.{Flaw}
use Rattle.flaw_parts.specs.Parts.{parts, flaw_in}
use Rattle.entries.specs.Entries.{unit_entry}
use Rattle.station.specs.Places.{station_places, fields_of}
use Rattle.station.specs.Rules.{field_rules}
use Rattle.station.specs.Between.{between_rules}
use Rattle.station.specs.Codes.{value_of}
use Rattle.walking.specs.Walks.{first_row, flaws_by}

-- First column and length of each entry,
abbrev pub places_in : List (List ℕ) → List (List ℕ)
places_in [] = []
places_in (e ∷ es) = take 2 e ∷ places_in es

-- and those of the station's fields.
abbrev pub places_as : List (ℕ × ℕ) → List (List ℕ)
places_as [] = []
places_as (q ∷ qs) = (q.0 ∷ q.1 ∷ []) ∷ places_as qs

abbrev pub field_places : List (List ℕ)
field_places = places_as station_places

-- The flaw of a field by its kind; a unit that has none by itself is outside its range where a row of its code is broken.
abbrev pub flaw_told : Bool → Kind → ℕ → List ℕ → List ℕ → Flaw
flaw_told kept amount w before p = flaw_in (parts amount w) before p
flaw_told kept unit w before p = cond (flawless (unit_entry p)) (ranged kept) (unit_entry p)
flaw_told kept (byte first set) w before p = flaw_in (parts (byte first set) w) before p
flaw_told kept (choice xs) w before p = flaw_in (parts (choice xs) w) before p
flaw_told kept (text rule) w before p = flaw_in (parts (text rule) w) before p
flaw_told kept (dropped rule) w before p = flaw_in (parts (dropped rule) w) before p
flaw_told kept remarks w before p = flaw_in (parts remarks w) before p
flaw_told kept date w before p = flaw_in (parts date w) before p
flaw_told kept date_or_blank w before p = flaw_in (parts date_or_blank w) before p
flaw_told kept (tenths a sign range) w before p = flaw_in (parts (tenths a sign range) w) before p
flaw_told kept kilometres w before p = flaw_in (parts kilometres w) before p
flaw_told kept metres w before p = flaw_in (parts metres w) before p
flaw_told kept metres_or_blank w before p = flaw_in (parts metres_or_blank w) before p
flaw_told kept position w before p = flaw_in (parts position w) before p
flaw_told kept whole w before p = flaw_in (parts whole w) before p
flaw_told kept whole_or_blank w before p = flaw_in (parts whole_or_blank w) before p

-- The flaws of a record's fields f, from field number k on, where it is known which rows are kept.
abbrev pub flaws_told : (ℕ → Bool) → ℕ → List Row → List (List ℕ) → List Flaw
flaws_told kept k [] f = []
flaws_told kept k (r ∷ rs) f = flaw_told (kept k) r.kind r.length (at f (k - 1)) (at f k) ∷ flaws_told kept (suc k) rs f

-- Entries stand where the station's fields do, and give each field's flaw, whatever the rows are.
unfoldable pub EntriesTell : List (List ℕ) → Type 0
EntriesTell entries =
    (places_in entries ≡ field_places)
    × ((r : List ℕ) (rows : List (List ℕ)) → flaws_by entries r rows ≡ flaws_told (λ k. eqb (first_row entries r k k rows) 0) 1 station_table (fields_of r))

-- Neither of the two rows of a unit is broken: filled where its frequency is, and blank where that is.
abbrev pub rows_kept : ℕ → Bool → Bool → Bool
rows_kept k x y = eqb (cond (not (x && not y)) (cond (not (not x && y)) 0 k) k) 0

-- So for the unit that is field number k.
abbrev pub unit_kept : List (List ℕ) → ℕ → Bool
unit_kept f k = rows_kept k (not (blank (at f (k - 1)))) (not (blank (at f k)))

-- Rows bind the two units to their frequencies, and where no field is broken they give the first rule between fields that is.
unfoldable pub RowsTell : List (List ℕ) → Type 0
RowsTell rows =
    (r : List ℕ) → (eqb (first_row field_places r 2 2 rows) 0 ≡ unit_kept (fields_of r) 2)
    × (eqb (first_row field_places r 25 25 rows) 0 ≡ unit_kept (fields_of r) 25)
    × (All (field_rules (fields_of r)) → first_row field_places r 31 255 rows ≡ first_broken 31 (between_rules (value_of r)))
