-- `printing::pieces::put_labelled` meets its contract: the number behind its label.
use Rattle.printing.proofs.AppendLaws.{then}
use borrow.Author.Rules.{rules}
use Rattle.printing.proofs.pieces.put_labelled.Goals as goal

pub returns : goal.returns
returns c = record {
  appended = then c.put_text-end.ensures c.put_number.ensures.appended;
  upper_bound = search rules;
}
