-- Document 01, "Header codes": the fourteen fields of a header, a line for each. A field's number is its code. The fax is judged and not kept, as document 02,
-- wish 10, has it.
use Rattle.std.specs.Prelude.{ℕ, ◌-◌, List, [], ◌∷◌}
use Rattle.columns.specs.Sets.{is, is_text, is_mail}
use Rattle.fields.specs.Kinds.{byte, text, dropped, left_text, literal, date, whole, whole_or_blank}
use Rattle.fields.specs.Rows.{Row, field, meant, Values, ◌&◌, row_behind, value_behind}
use Rattle.header.specs.declared.Header.{Header}

abbrev pub header_table : List Row
header_table =
    field "number" 1 2 whole ∷
    field "content" 3 80 (text (left_text is_text)) ∷
    field "letter" 83 1 (byte " " (is "O")) ∷
    field "country of origin" 84 3 (text (literal "AUT")) ∷
    field "e-mail" 87 40 (text (left_text is_mail)) ∷
    field "telephone" 127 20 (text (left_text is_text)) ∷
    field "fax" 147 20 (dropped (left_text is_text)) ∷
    field "person" 167 20 (text (left_text is_text)) ∷
    field "count" 187 6 whole ∷
    field "date" 193 8 date ∷
    field "country of destination" 201 3 (text (literal "AUT")) ∷
    field "file number" 204 6 whole_or_blank ∷
    field "version" 210 3 (text (literal "1.0")) ∷
    field "reserve" 213 7 (text (literal "       ")) ∷
    []

-- The values of a typed header by the table's rows,
abbrev pub header_values : Header → Values header_table
header_values h =
    h.number & h.content & h.letter & h.origin & h.mail & h.telephone & tt & h.person & h.count & h.date & h.destination & h.serial & h.version & h.reserve & tt

-- and the header that such values make.
abbrev pub header_from : Values header_table → Header
header_from v =
    let field : (k : ℕ) → (meant (row_behind header_table (k - 1))).Value = λ k. value_behind header_table v (k - 1) in
    record { number = field 1; content = field 2; letter = field 3; origin = field 4; mail = field 5; telephone = field 6; person = field 8; count = field 9; date = field 10; destination = field 11; serial = field 12; version = field 13; reserve = field 14 }
