-- `trailers::bad_row` meets its contract: the sum of its bytes is not 0.
use Rattle.trailers.proofs.TrailerLaws.{bad_sum}
use Rattle.trailers.proofs.bad_row.Goals as goal

pub returns : goal.returns
returns c =
    cc (bad_sum c.args.sheet.now c.args.i c.requires.1)
