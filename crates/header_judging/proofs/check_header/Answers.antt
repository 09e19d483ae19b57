-- `header_judging::check_header` meets its contract.
use Rattle.std.specs.Prelude.{Err}
use Rattle.basics.specs.declared.Refusal.TheVariants as why
use Rattle.basics.proofs.CallLaws.{length_ends, code_ends}
use Rattle.header.specs.Calls.{read_header_outcome}
use Rattle.header.specs.Codes.{header_code}
use Rattle.header_judging.proofs.check_header.Goals as goal

pub returns-then-rec-ne219 : goal.returns-then-rec-ne219
unfolding read_header_outcome
returns-then-rec-ne219 c = length_ends c.args.rec.now (header_code c.args.rec.now) (Err why.RecordLength) c.if-rec-ne219.true

pub returns : goal.returns
unfolding read_header_outcome
returns c = code_ends c.args.rec.now _ (Err why.RecordLength) c.if-rec-ne219.false c.header_code.ensures c.judged.ensures
