-- `judging::check_station` meets its contract.
use Rattle.std.specs.Prelude.{Err}
use Rattle.basics.specs.declared.Refusal.TheVariants as why
use Rattle.basics.proofs.CallLaws.{length_ends, code_ends}
use Rattle.station.specs.Calls.{read_outcome}
use Rattle.station.specs.Codes.{station_code}
use Rattle.judging.proofs.check_station.Goals as goal

pub returns-then-rec-ne219 : goal.returns-then-rec-ne219
unfolding read_outcome
returns-then-rec-ne219 c = length_ends c.args.rec.now (station_code c.args.rec.now) (Err why.RecordLength) c.if-rec-ne219.true

pub returns : goal.returns
unfolding read_outcome
returns c = code_ends c.args.rec.now _ (Err why.RecordLength) c.if-rec-ne219.false c.station_code.ensures c.judged.ensures
