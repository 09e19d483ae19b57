-- `reports::put_judged` meets its contract: the sheet that is judged is the file's, and its trailer has the number of its bad rows.
use Rattle.reports.proofs.SheetLaws.{sized_so, judged_lines}
use Rattle.printing.proofs.WriteLaws.{few}
use borrow.Author.Rules.{rules}
use Rattle.reports.proofs.put_judged.Goals as goal

pub judge_sized-requires : goal.judge_sized-requires
judge_sized-requires c =
    sized_so c.args.file.now c.args.sheet.now c.args.n c.requires.file_value c.requires.n_value.0 c.requires.n_value.1

pub put_sheet-requires : goal.put_sheet-requires
put_sheet-requires c =
    (few c.args.file.now c.requires.file_value c.requires.n_value.0, search rules, search rules)

pub returns : goal.returns
returns c =
    rw (← judged_lines c.args.file.now _ c.args.n c.requires.n_value.0 c.judge_sized.ensures) c.put_sheet.ensures
