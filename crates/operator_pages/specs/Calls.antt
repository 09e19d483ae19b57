-- Document 02, wish 9: how a page ends, and what it leaves in the lent rows.
use Rattle.std.specs.Prelude.{ℕ, ◌-◌, List, [], ◌∷◌, ◌++◌, length, get_or, drop, replicate, ltb, Err}
use Rattle.columns.specs.Texts.{bytes}
use Rattle.basics.specs.Outcomes.{if_done, Test, when, first_refusal, Outcome}
use Rattle.basics.specs.declared.Refusal.TheVariants as why
use Rattle.files.specs.Calls.{file_tests}
use Rattle.operator_counts.specs.Counts.{operators, no_tally}
use Rattle.operator_pages.specs.declared.OperatorRow.{OperatorRow}
use Rattle.operator_pages.specs.declared.PageAnswer.{PageAnswer}
use Rattle.operator_pages.specs.declared.Page.{Page}
use Rattle.operator_pages.specs.Pages.{page_of}

-- Refusal 17: the lent list has fewer rows than operators found.
abbrev pub room_test : List ℕ → ℕ → Test
room_test file room = when (ltb room (length (page_of file))) (Err why.TooFewRows)

-- A page uses 1, 2 and 17.
unfoldable pub page_outcome : List ℕ → ℕ → Outcome
page_outcome file room = first_refusal (file_tests file ++ (room_test file room ∷ []))

-- The rows that are given where there is room for so many: all of the page, or none.
unfoldable pub rows_for : List ℕ → ℕ → List OperatorRow
rows_for file room = if_done (page_outcome file room) (page_of file) []

-- The answer: how the call ended, and the number of rows given, 0 if refused.
unfoldable pub page_answer : List ℕ → ℕ → PageAnswer
page_answer file room = record { outcome = page_outcome file room; rows = length (rows_for file room) }

-- The lent rows as the call leaves them: those past the last row given keep what they held.
unfoldable pub rows_after : List ℕ → List OperatorRow → List OperatorRow
rows_after file old = rows_for file (length old) ++ drop (length (rows_for file (length old))) old

-- How the code holds a page: a hundred rows, blank ones behind those that are given.
abbrev pub blank_row : OperatorRow
blank_row = record { code = bytes "  "; tally = no_tally }

unfoldable pub filled_up : List OperatorRow → List OperatorRow
filled_up rows = rows ++ replicate (operators - length rows) blank_row

unfoldable pub paged : Outcome → List OperatorRow → Page
paged o rows = record { answer = record { outcome = o; rows = length rows }; rows = filled_up rows }

-- Row number i of a page, from 0; past its end a row of nothing.
abbrev pub no_row : OperatorRow
no_row = record { code = []; tally = no_tally }

abbrev pub page_row : Page → ℕ → OperatorRow
page_row page i = get_or page.rows i no_row
