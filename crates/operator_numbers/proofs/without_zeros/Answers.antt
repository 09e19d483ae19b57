use mathlib.Core.Path.{sym, ◌∙◌}
use Rattle.operator_numbers.proofs.NumberLaws.{short_stop, short_on, short_none}
use native.Mathlib.Omega.{arith}
use Prim.Native.Nat.{◌+◌, ◌-◌}
use mathlib.Core.Path.{◌≡◌}
use Rattle.operator_numbers.proofs.without_zeros.Goals as goal

pub returns-then-digits-ne0 : goal.returns-then-digits-ne0
returns-then-digits-ne0 c =
    let e : c.loop-places.places - 2 + 1 ≡ c.loop-places.places - 1 = omega arith in
    let stop = rw e at (short_stop (c.loop-places.places - 2) c.loop-places.digits (omega arith) c.if-digits-ne0.true) in
    (sym (c.loop-places.invariant ∙ stop), omega arith)

pub loop-places-preserved : goal.loop-places-preserved
loop-places-preserved c =
    let e : c.loop-places.places - 1 - 2 ≡ c.loop-places.places - 2 - 1 = omega arith in
    rw e (c.loop-places.invariant ∙ short_on (c.loop-places.places - 2) c.loop-places.digits (omega arith) c.if-digits-ne0.false)

pub returns : goal.returns
returns c =
    (sym (c.loop-places.invariant ∙ short_none (c.loop-places.places - 2) c.loop-places.digits (omega arith)), omega arith)
