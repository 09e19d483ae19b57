-- What the calls that locate promise to callers in C, as relations between what they are given, their answer and the lent numbers.
use Rattle.std.specs.Prelude.{ℕ, ◌≡◌, cond, List, length, eqb}
use Rattle.basics.specs.Outcomes.{refusal}
use Rattle.showing.specs.Showing.{show_outcome, shown_offset, shown_length}
use Rattle.vehicles.specs.Names.{number_in, number_offset}
use Rattle.faults.specs.Faults.{marks_of, has_marks, long_field}

-- `desk_show` of field j of record k.
abbrev pub FieldLocated : List ℕ → ℕ → ℕ → ℕ → ℕ → ℕ → Type 0
FieldLocated file k j answer offset size =
    (answer ≡ refusal (show_outcome file k j)) × (offset ≡ shown_offset file k j) × (size ≡ shown_length file k j)

-- `desk_carriage_number` of a name: how many digits, and where they begin.
abbrev pub NumberLocated : List ℕ → ℕ → ℕ → Type 0
NumberLocated name answer offset = (answer ≡ length (number_in name)) × (offset ≡ number_offset name)

-- `desk_line_marks` of a line: 10 where its marks are not those of a line.
abbrev pub MarksTold : List ℕ → ℕ → ℕ → ℕ → ℕ → Type 0
MarksTold t answer semicolons feeds ended =
    (answer ≡ cond (has_marks (marks_of t)) 0 10) × (semicolons ≡ (marks_of t).semicolons) × (feeds ≡ (marks_of t).feeds) × (ended ≡ cond (marks_of t).ended 1 0)

-- `desk_long_field` of a line: 11 where a field is longer than its columns.
abbrev pub LongFieldTold : List ℕ → ℕ → ℕ → ℕ → ℕ → Type 0
LongFieldTold t answer number bytes most =
    (answer ≡ cond (eqb (long_field t).number 0) 0 11) × (number ≡ (long_field t).number) × (bytes ≡ (long_field t).length) × (most ≡ (long_field t).most)
