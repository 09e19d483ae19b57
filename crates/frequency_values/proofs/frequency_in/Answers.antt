-- `frequency_values::frequency_in` meets its contract: an amount that reaches through its columns is ten digits around the point.
use Prim.Native.Nat.{◌<◌}
use native.Mathlib.Omega.{arith}
use lib.ListN.{length-take}
use Rattle.frequency_values.specs.Full.{ReachesThrough}
use Rattle.frequency_values.proofs.FullLaws.{before_point, after_point, whole_below, fraction_below, says_digits}
use Rattle.frequency_values.proofs.frequency_in.Goals as goal
use Rattle.frequency_values.proofs.frequency_in.Goals.{After-number_of-arg-1, After-number_of-fraction}

-- behind the test
through : (c : After-number_of-arg-1) → ReachesThrough c.args.p.now
through c = c.reaches_through.ensures c.if-not-reaches_through.false

-- both numbers have five digits
whole_few : (c : After-number_of-fraction) → (ReachesThrough c.args.p.now) → c.number_of-whole.result < 100000
whole_few c through =
    rw c.number_of-whole.ensures (whole_below c.args.p.now c.requires.0 c.requires.1 (through))

fraction_few : (c : After-number_of-fraction) → (ReachesThrough c.args.p.now) → c.number_of-fraction.result < 100000
fraction_few c through =
    rw c.number_of-fraction.ensures (fraction_below c.args.p.now c.requires.0 c.requires.1 (through))

pub number_of-whole-requires : goal.number_of-whole-requires
number_of-whole-requires c =
    (simp length-take (omega arith), before_point c.args.p.now c.requires.0 c.requires.1 (through c))

pub number_of-fraction-requires : goal.number_of-fraction-requires
number_of-fraction-requires c =
    (simp length-take (omega arith), after_point c.args.p.now c.requires.0 c.requires.1 (through (goal.at.number_of-fraction-requires c).After-number_of-arg-1))

pub overflow_mul-result : goal.overflow_mul-result
overflow_mul-result c = omega (arith, (whole_few c (through (goal.at.overflow_mul-result c).After-number_of-arg-1)))

pub overflow_add-result : goal.overflow_add-result
overflow_add-result c = omega (arith, (whole_few c (through (goal.at.overflow_add-result c).After-number_of-arg-1)), (fraction_few c (through (goal.at.overflow_add-result c).After-number_of-arg-1)))

pub returns : goal.returns
returns c =
    rw (c.number_of-whole.ensures, c.number_of-fraction.ensures, c.unit_of.ensures, c.byte.ensures)
    (says_digits c.args.p.now c.requires.0 c.requires.1 (through (goal.at.returns c).After-number_of-arg-1) c.args.q.now)
