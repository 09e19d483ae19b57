-- `header_judging::check_filed_header` meets its contract.
use Rattle.std.specs.Prelude.{Err}
use Rattle.basics.specs.declared.Refusal.TheVariants as why
use Rattle.basics.proofs.CallLaws.{length_ends, code_ends}
use Rattle.header.specs.Calls.{filed_header_outcome}
use Rattle.header.specs.Codes.{filed_header_code}
use Rattle.header_judging.proofs.check_filed_header.Goals as goal

pub returns-then-rec-ne219 : goal.returns-then-rec-ne219
unfolding filed_header_outcome
returns-then-rec-ne219 c = length_ends c.args.rec.now (filed_header_code c.args.rec.now c.args.n) (Err why.RecordLength) c.if-rec-ne219.true

pub returns : goal.returns
unfolding filed_header_outcome
returns c = code_ends c.args.rec.now _ (Err why.RecordLength) c.if-rec-ne219.false c.filed_header_code.ensures c.judged.ensures
