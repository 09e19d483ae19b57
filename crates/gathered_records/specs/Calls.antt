-- Document 02, wish 1: how filing a gathered line ends, and what it leaves.
use Rattle.basics.specs.Outcomes.{Outcome}
use Rattle.std.specs.Prelude.{ℕ, cond, ◌&&◌, List, take, leb, eqb, Err}
use Rattle.columns.specs.Texts.{sized}
use Rattle.basics.specs.Fields.{record_length}
use Rattle.semicolons.specs.Lines.{is_feed, longest_line}
use Rattle.lists.specs.Calls.{line_filing, filed_line}
use Rattle.basics.specs.declared.Refusal.TheVariants as why
use Rattle.gathering.specs.declared.Gathered.{Gathered}

-- A line of more than 249 bytes that has its marks has a field that is too long for its columns, 11; any other is not a line, 10.
unfoldable pub long_outcome : Gathered → Outcome
long_outcome g = cond (eqb g.semicolons 29 && (eqb g.feeds 1 && is_feed g.last)) (Err why.FieldTooLong) (Err why.NotALine)

-- Filing a gathered line: one that is held whole as it is, a longer one by what is kept of it; 7 before either.
unfoldable pub gathered_filing : List ℕ → Gathered → List ℕ → Outcome
gathered_filing buffer g out =
    cond (leb g.held longest_line)
    (line_filing (take g.held buffer) out)
    (cond (sized record_length out) (long_outcome g) (Err why.BufferLength))

-- It leaves the record of a line that is held whole and accepted, and on a refusal every byte as it was.
unfoldable pub filed_gathered : List ℕ → Gathered → List ℕ → List ℕ
filed_gathered buffer g out = cond (leb g.held longest_line) (filed_line (take g.held buffer) out) out
