-- `operator_lines::put_operators_total` meets its contract: three numbers behind their labels, and the end of the line.
use Rattle.printing.proofs.AppendLaws.{then}
use Rattle.operator_lines.specs.Lines.{operators_line}
use Rattle.operator_lines.proofs.put_operators_total.Goals as goal

pub returns : goal.returns
unfolding operators_line
returns c =
    then c.put_counted-end.ensures.appended (then c.put_counted-counted_end.ensures.appended (then c.put_counted-all_end.ensures.appended c.put_text.ensures))
