-- `numeral_writing::fits_whole` meets its contract: with the places that are left, what is left of the number fits as the number does.
use Prim.Native.Nat.{◌+◌, ◌-◌}
use mathlib.Core.Path.{◌≡◌, sym, ◌∙◌}
use native.Mathlib.Omega.{arith}
use Rattle.numerals.proofs.NumberLaws.{fits_turn, fits_zero}
use Rattle.numeral_writing.proofs.fits_whole.Goals as goal

pub returns-then-rest-eq0 : goal.returns-then-rest-eq0
returns-then-rest-eq0 c = sym (c.loop.invariant ∙ fits_zero (c.args.k - c.loop.counter) c.loop.rest c.if-rest-eq0.true)

pub loop-preserved : goal.loop-preserved
loop-preserved c =
    let left : c.args.k - (c.loop.counter + 1) ≡ c.args.k - c.loop.counter - 1 = omega arith in
    rw left (c.loop.invariant ∙ fits_turn (c.args.k - c.loop.counter) c.loop.rest (omega arith))
