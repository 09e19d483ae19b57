-- Document 02, wishes 1 and 7: the flaw that comes with the code of a line.
use Rattle.std.specs.Prelude.{ℕ, List}
use Rattle.basics.specs.Outcomes.{code_with}
use Rattle.flaws.specs.declared.Flaw.{Flaw}
use Rattle.coordination_flaws.specs.Flaws.{record_flaw}
use Rattle.semicolons.specs.Lines.{record_of}
use Rattle.lists.specs.Calls.{line_outcome}

-- The flaw that the record of a line has by the code that reading the line is refused with; with any other refusal than 9 there is none.
unfoldable pub flaw_of_line : List ℕ → Flaw
flaw_of_line t = record_flaw (record_of t) (code_with (line_outcome t))
