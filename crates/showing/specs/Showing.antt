-- Document 01, "The filing and its files" and "Refusal numbers": a field of a record, and how showing it ends.
use Rattle.std.specs.Prelude.{ℕ, ◌+◌, ◌-◌, ◌*◌, ◌||◌, List, [], ◌∷◌, ◌++◌, ltb, eqb, Err}
use Rattle.basics.specs.Fields.{record_length, cut, at, place_of}
use Rattle.basics.specs.Outcomes.{if_done, Test, when, first_refusal, Outcome}
use Rattle.basics.specs.declared.Refusal.TheVariants as why
use Rattle.places.specs.Places.{places_of, field_count}
use Rattle.files.specs.Files.{record_at}
use Rattle.files.specs.Calls.{file_tests, number_test}

-- Field number j of record number k.
unfoldable pub field_at : List ℕ → ℕ → ℕ → List ℕ
field_at file k j = at (cut (places_of k) (record_at file k)) j

-- The record has no such field.
abbrev pub field_test : ℕ → ℕ → Test
field_test k j = when (eqb j 0 || ltb (field_count k) j) (Err why.NoSuchField)

-- Showing uses 1, 2, 5 and 8.
unfoldable pub show_outcome : List ℕ → ℕ → ℕ → Outcome
show_outcome file k j = first_refusal (file_tests file ++ (number_test file k ∷ field_test k j ∷ []))

-- It answers the piece of the file that holds the field, and an empty one on a refusal.
unfoldable pub shown_field : List ℕ → ℕ → ℕ → List ℕ
shown_field file k j = if_done (show_outcome file k j) (field_at file k j) []

-- Where it begins in the file, and how long it is; both 0 on a refusal.
unfoldable pub shown_offset : List ℕ → ℕ → ℕ → ℕ
shown_offset file k j = if_done (show_outcome file k j) (record_length * k + ((place_of (places_of k) j).first - 1)) 0

unfoldable pub shown_length : List ℕ → ℕ → ℕ → ℕ
shown_length file k j = if_done (show_outcome file k j) (place_of (places_of k) j).length 0
