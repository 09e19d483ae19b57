-- `list_in::take_part` meets its contract: with its line feed the line ends, and without one it goes on.
use Rattle.gathering.proofs.CutLaws.{part_ends, part_goes_on}
use Rattle.list_in.proofs.take_part.Goals as goal

pub returns-then-gathered-eq10 : goal.returns-then-gathered-eq10
returns-then-gathered-eq10 c = λ n.
    part_ends c.args.line.now _ c.args.progress.gathered _ c.args.part.now c.gather-gathered.ensures n c.if-gathered-eq10.true _ c.end_line.ensures

pub returns : goal.returns
returns c = λ n.
    part_goes_on c.args.line.now _ c.args.progress.gathered _ c.args.part.now c.gather-gathered.ensures n c.if-gathered-eq10.false
