-- `trailers::lowest_bad` meets its contract: none of the rows before was found bad.
use Rattle.forms.specs.OwnForm.{bad}
use Rattle.forms.proofs.CountLaws.{first_found}
use borrow.Author.Rules.{rules}
use Rattle.trailers.proofs.lowest_bad.Goals as goal

pub returns-then-bad_row : goal.returns-then-bad_row
returns-then-bad_row c =
    first_found (bad c.args.sheet.now) c.args.n c.loop-i.i c.loop-i.invariant.1 (search rules) (cc)
