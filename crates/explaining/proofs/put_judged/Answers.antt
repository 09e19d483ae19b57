-- `explaining::put_judged` meets its contract: the sheet that is judged is the file's, and its trailer has the number of its bad rows.
use Rattle.reports.proofs.SheetLaws.{sized_so}
use Rattle.printing.proofs.WriteLaws.{few}
use native.Mathlib.Omega.{arith}
use Rattle.files.proofs.LengthLaws.{length_passed, whole_records}
use Rattle.explaining.proofs.FileLaws.{judged_lines}
use borrow.Author.Rules.{rules}
use Rattle.explaining.proofs.put_judged.Goals as goal

pub judge_sized-requires : goal.judge_sized-requires
judge_sized-requires c =
    sized_so c.args.file.now c.args.sheet.now c.args.n c.requires.file_value c.requires.n_value.0 c.requires.n_value.1

pub put_sheet-requires : goal.put_sheet-requires
put_sheet-requires c =
    let file = c.args.file.now in
    let whole = whole_records file (length_passed file c.requires.file_value) in
    (few file c.requires.file_value c.requires.n_value.0, omega (arith, whole.1, c.requires.n_value.0), search rules, search rules)

pub returns : goal.returns
returns c =
    rw (← judged_lines c.args.file.now _ c.args.n c.requires.n_value.0 c.judge_sized.ensures) c.put_sheet.ensures
