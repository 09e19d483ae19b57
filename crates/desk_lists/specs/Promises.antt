-- What the calls on lines promise to callers in C, as relations between what they are given, their answer and what they leave in
-- every lent byte.
use Rattle.std.specs.Prelude.{ℕ, ◌≡◌, List}
use Rattle.lists.specs.Calls.{record_listing, listed_length, listed_record, line_filing, filed_line}
use Rattle.answers.specs.Endings.{Answered}

-- `desk_list_out` of a record into a buffer.
abbrev pub RecordLineOut : List ℕ → List ℕ → ℕ → List ℕ → ℕ → ℕ → Type 0
RecordLineOut r before answer after length code =
    Answered (record_listing r before) answer code × (after ≡ listed_record r before) × (length ≡ listed_length r before)

-- `desk_list_in` of a line into a record.
abbrev pub LineRecordIn : List ℕ → List ℕ → ℕ → List ℕ → ℕ → Type 0
LineRecordIn t before answer after code = Answered (line_filing t before) answer code × (after ≡ filed_line t before)
