use Prim.Native.Nat.{◌-◌}
use Rattle.operator_numbers.proofs.NumberLaws.{digits_small, digits_more, digits_none}
use native.Mathlib.Omega.{arith}
use Prim.Native.Nat.{◌+◌, ◌-◌}
use mathlib.Core.Path.{◌≡◌}
use Rattle.operator_numbers.proofs.digits_in.Goals as goal

pub returns-then-rest-lt10 : goal.returns-then-rest-lt10
returns-then-rest-lt10 c =
    (omega (arith, c.loop-count.invariant, digits_small (20 - c.loop-count.count) c.loop-count.rest (omega arith) c.if-rest-lt10.true), omega arith)

pub loop-count-preserved : goal.loop-count-preserved
loop-count-preserved c =
    let left : 20 - (c.loop-count.count + 1) ≡ 20 - c.loop-count.count - 1 = omega arith in
    rw left (omega (arith, c.loop-count.invariant, digits_more (20 - c.loop-count.count) c.loop-count.rest (omega arith) c.if-rest-lt10.false))

pub returns : goal.returns
returns c =
    (omega (arith, c.loop-count.invariant, digits_none (20 - c.loop-count.count) c.loop-count.rest (omega arith)), omega arith)
