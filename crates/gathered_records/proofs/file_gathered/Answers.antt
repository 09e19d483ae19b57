-- `gathered_records::file_gathered` meets its contract.
use Rattle.gathered_records.proofs.FilingLaws.{held_filed, long_unsized, long_judged}
use Rattle.gathered_records.proofs.file_gathered.Goals as goal

pub returns-then-gathered-le249 : goal.returns-then-gathered-le249
returns-then-gathered-le249 c =
    held_filed c.args.buffer.now c.args.gathered c.args.out.now c.if-gathered-le249.true _ _ c.file_held.ensures

pub returns-then-out-ne219 : goal.returns-then-out-ne219
returns-then-out-ne219 c =
    long_unsized c.args.buffer.now c.args.gathered c.args.out.now c.if-gathered-le249.false c.if-out-ne219.true

pub returns : goal.returns
returns c =
    long_judged c.args.buffer.now c.args.gathered c.args.out.now c.if-gathered-le249.false c.if-out-ne219.false _ c.refusal.ensures
