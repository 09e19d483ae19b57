-- Document 02, wish 7: what is wrong with a record by one of its codes, in words.
use Rattle.std.specs.Prelude.{ℕ, ◌+◌, ◌-◌, cond, ◌||◌, List, [], ◌++◌, eqb, ltb, length, take, drop}
use Rattle.columns.specs.Texts.{bytes}
use Rattle.wording.specs.Words.{flaw_words, name_at}
use Rattle.basics.specs.Fields.{place_of}
use Rattle.fields.specs.Table.{station_table}
use Rattle.printing.specs.Lines.{labelled}
use Rattle.station.specs.Places.{station_places}
use Rattle.coordination_flaws.specs.Flaws.{record_flaw}

-- A field's columns, of which one alone has one number.
unfoldable pub columns_text : ℕ → ℕ → List ℕ
columns_text first len = cond (eqb len 1) (labelled " column " first) (labelled " columns " first ++ labelled "-" (first + len - 1))

-- Field number k of a record: its name, its columns, and its bytes as they stand.
unfoldable pub field_text : List ℕ → ℕ → List ℕ
field_text r k =
    let place = place_of station_places k in
    bytes " " ++ (name_at k ++ (columns_text place.first place.length ++ (bytes " \"" ++ (take place.length (drop (place.first - 1) r) ++ bytes "\""))))

-- What is wrong with a record by a code of its own: the field that the code names, if it names one, and the flaw.
unfoldable pub reason_text : List ℕ → ℕ → List ℕ
reason_text r c = cond (eqb c 0 || ltb (length station_table) c) [] (field_text r c) ++ flaw_words (record_flaw r c)
