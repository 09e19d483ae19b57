-- `splitting::marks::count_few` meets its contract: what was counted, and what is still to come, are all.
use Rattle.semicolons.proofs.CountLaws.{count_here, count_other, count_end}
use native.Mathlib.Omega.{arith}
use Rattle.splitting.proofs.marks.count_few.Goals as goal
use Rattle.splitting.proofs.marks.count_few.Goals.{then-c-mark, else-c-mark}

pub loop-c-preserved : goal.loop-c-preserved
loop-c-preserved c =
    let text = c.args.text.now in
    let i = c.loop-c.c-index in
    elim c.if-c-mark.branch [
      | then-c-mark w ↦
          let here = count_here c.args.mark text i c.loop-c-test.true w.if-c-mark.true in
          (omega (arith, w.n-is, c.loop-c.invariant.0), omega (arith, w.n-is, c.loop-c.invariant.1, here))
      | else-c-mark w ↦
          let other = count_other c.args.mark text i c.loop-c-test.true w.if-c-mark.false in
          (omega (arith, w.n-is, c.loop-c.invariant.0), omega (arith, w.n-is, c.loop-c.invariant.1, other))
    ]

pub returns : goal.returns
returns c =
    let last = count_end c.args.mark c.args.text.now c.loop-c.c-index c.loop-c-test.false in
    (omega (arith, c.loop-c.invariant.0), omega (arith, c.loop-c.invariant.1, last))
