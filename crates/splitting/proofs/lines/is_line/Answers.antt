-- `splitting::lines::is_line` meets its contract.
use Rattle.semicolons.specs.Lines.{is_line}
use Rattle.splitting.proofs.lines.is_line.Goals as goal

pub returns : goal.returns
unfolding is_line
returns c = c.is_marked.ensures
