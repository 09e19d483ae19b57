-- `printing::lines::put_header` meets its contract: a number behind its label, and the end of the line.
use Rattle.printing.specs.Lines.{header_line}
use Rattle.printing.proofs.AppendLaws.{then}
use borrow.Author.Rules.{rules}
use Rattle.printing.proofs.lines.put_header.Goals as goal

pub returns : goal.returns
unfolding header_line
returns c = record {
  appended = then c.put_labelled-end.ensures.appended c.put_text.ensures;
  upper_bound = search rules;
}
