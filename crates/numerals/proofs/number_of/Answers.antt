-- `numerals::number_of` meets its contract: what is left to read, onto the value so far, is what was to be read, and there is room for it.
use mathlib.Core.Path.{sym, ◌∙◌}
use lib.ListN.{drop_of_length-le}
use Rattle.numerals.specs.Numbers.{number_from}
use Rattle.numerals.proofs.NumberLaws.{Said, said_turn}
use native.Mathlib.Omega.{arith}
use Rattle.numerals.proofs.number_of.Goals as goal
use Rattle.numerals.proofs.number_of.Goals.{In-loop-c}

-- the digit that is read
digit : (c : In-loop-c) → Said c.args.p.now c.loop-c.c-index c.loop-c.value
digit c =
    said_turn c.args.p.now c.loop-c.c-index c.loop-c.value c.requires.1 c.requires.0 c.loop-c-test.true c.loop-c.invariant.0

pub overflow_mul-value : goal.overflow_mul-value
overflow_mul-value c = omega (arith, (digit (goal.at.overflow_mul-value c).In-loop-c))

pub overflow_sub-c : goal.overflow_sub-c
overflow_sub-c c = (digit (goal.at.overflow_sub-c c).In-loop-c).low

pub overflow_add-value : goal.overflow_add-value
overflow_add-value c = omega (arith, (digit (goal.at.overflow_add-value c).In-loop-c), c.from.ensures)

pub loop-c-preserved : goal.loop-c-preserved
loop-c-preserved c =
    let d = digit (goal.at.loop-c-preserved c).In-loop-c in
    rw c.from.ensures (omega (arith, d), c.loop-c.invariant.1 ∙ d.said)

pub returns : goal.returns
unfolding number_from
returns c =
    sym (c.loop-c.invariant.1 ∙ rw (drop_of_length-le c.args.p.now c.loop-c-test.false))
