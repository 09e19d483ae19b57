-- What the call on the operators of a file promises to callers in C, as a relation between what it is given, its answer and what it leaves in every
-- lent byte and number.
use Rattle.std.specs.Prelude.{ℕ, ◌/◌, ◌≡◌, List, [], ◌∷◌, ◌++◌, length, drop}
use Rattle.basics.specs.Outcomes.{refusal}
use Rattle.operator_pages.specs.declared.OperatorRow.{OperatorRow}
use Rattle.operator_pages.specs.declared.PageAnswer.{PageAnswer}
use Rattle.operator_pages.specs.Calls.{page_outcome, rows_for, page_answer}
use Rattle.desk_operators.specs.Rows.{operator_width, spell_row}

-- How many rows there is room for.
abbrev pub room_in : List ℕ → ℕ
room_in out = length out / operator_width

-- Rows, one after the other.
unfoldable pub spelled_rows : List OperatorRow → List ℕ
spelled_rows [] = []
spelled_rows (y ∷ page) = spell_row y ++ spelled_rows page

-- The lent bytes as the call leaves them: those past the last row given keep what they held.
unfoldable pub bytes_after : List OperatorRow → List ℕ → List ℕ
bytes_after page out = spelled_rows page ++ drop (length (spelled_rows page)) out

-- The answer, and the lent bytes.
abbrev pub RowsPut : List ℕ → List ℕ → PageAnswer → List ℕ → Type 0
RowsPut file out answer after = (answer ≡ page_answer file (room_in out)) × (after ≡ bytes_after (rows_for file (room_in out)) out)

-- `desk_operators` of a file.
abbrev pub OperatorsTold : List ℕ → List ℕ → ℕ → List ℕ → ℕ → Type 0
OperatorsTold file out answer after count =
    (answer ≡ refusal (page_outcome file (room_in out))) × (after ≡ bytes_after (rows_for file (room_in out)) out) × (count ≡ length (rows_for file (room_in out)))
