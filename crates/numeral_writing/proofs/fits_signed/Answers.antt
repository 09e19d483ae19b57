-- `numeral_writing::fits_signed` meets its contract.
use mathlib.Core.Path.{◌≡◌, ◌∙◌}
use borrow.Author.Tests.{lt-ltb}
use mir.Facts.{to_z-of_z}
use Rattle.numerals.specs.Numbers.{is_negative, signed_fits}
use native.Mathlib.Omega.{arith}
use Rattle.numeral_writing.proofs.fits_signed.Goals as goal
use Rattle.numeral_writing.proofs.fits_signed.Goals.{After-is_negative}

pub returns-then-w-eq0 : goal.returns-then-w-eq0
unfolding signed_fits
returns-then-w-eq0 c = rw c.if-w-eq0.true

-- the sign was told
told : (c : After-is_negative) → c.is_negative.result ≡ is_negative c.args.v
told c = rw (to_z-of_z c.ranges.v) at c.is_negative.ensures

pub returns-then-is_negative : goal.returns-then-is_negative
unfolding signed_fits
returns-then-is_negative c =
    rw (lt-ltb 0 c.args.w (omega (arith, c.if-w-eq0.false)), ← (told (goal.at.returns-then-is_negative c).After-is_negative), c.if-is_negative.true)
    (c.fits_whole.ensures ∙ rw (c.magnitude.ensures, to_z-of_z c.ranges.v))

pub returns : goal.returns
unfolding signed_fits
returns c =
    rw (lt-ltb 0 c.args.w (omega (arith, c.if-w-eq0.false)), ← (told (goal.at.returns c).After-is_negative), c.if-is_negative.false)
    (c.fits_whole-2.ensures ∙ rw (c.magnitude-2.ensures, to_z-of_z c.ranges.v))
