-- Document 02, wish 12: a sheet that somebody else wrote is the one that the list is judged to, or wrong from a byte on.
use Rattle.std.specs.Prelude.{ℕ, cond, List, length, eqb}
use Rattle.basics.specs.Outcomes.{if_done}
use Rattle.alike.specs.Alike.{alike}
use Rattle.sheet.specs.Sheets.{sheet_of}
use Rattle.sheet.specs.Calls.{judge_outcome}
use Rattle.verifying.specs.declared.verifying.Finding.{Finding}
use Rattle.verifying.specs.declared.verifying.Finding.TheVariants as finding

-- A sheet beside the right one: alike to its end, or wrong at the first byte that differs.
unfoldable pub compared : List ℕ → List ℕ → Finding
compared right sheet = cond (eqb (alike right sheet) (length sheet)) finding.Right (finding.WrongAt (alike right sheet))

-- What verifying finds; it is refused as judging is.
unfoldable pub finding_of : List ℕ → List ℕ → Finding
finding_of file sheet = if_done (judge_outcome file sheet) (compared (sheet_of file) sheet) finding.Refused
