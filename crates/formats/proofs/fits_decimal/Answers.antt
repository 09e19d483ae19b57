-- `formats::fits_decimal` meets its contract.
use Prim.Native.Nat.{◌+◌}
use mathlib.Core.Path.{◌≡◌, ap, ◌∙◌}
use mathlib.Core.Bool.{not}
use lib.IntN.{nat_abs}
use mir.Facts.{to_z-of_z}
use borrow.Author.Tests.{not-true, not-false}
use Rattle.numerals.specs.Numbers.{whole_fits}
use Rattle.formats.specs.Formats.{digits_before, digits_after}
use Rattle.formats.proofs.FormatLaws.{few_digits}
use native.Mathlib.Omega.{arith}
use Rattle.formats.proofs.fits_decimal.Goals as goal
use Rattle.formats.proofs.fits_decimal.Goals.{After-fits_whole}

-- the digits were counted as the format has them
counted : (c : After-fits_whole) →
    c.fits_whole.result ≡ whole_fits (digits_before c.args.format + digits_after c.args.format) (nat_abs c.args.v)
counted c =
    c.fits_whole.ensures ∙ rw (c.digits_after-b.ensures, c.digits_before-a.ensures, c.magnitude.ensures, to_z-of_z c.ranges.v)

pub overflow_add-a : goal.overflow_add-a
overflow_add-a c = let f = few_digits c.args.format in omega (arith, f, c.digits_after-b.ensures, c.digits_before-a.ensures)

pub returns-then-not-fits_whole : goal.returns-then-not-fits_whole
returns-then-not-fits_whole c = rw (← (counted (goal.at.returns-then-not-fits_whole c).After-fits_whole), not-true c.fits_whole.result c.if-not-fits_whole.true-raw)

pub returns-then-may_sign : goal.returns-then-may_sign
returns-then-may_sign c = rw (← (counted (goal.at.returns-then-may_sign c).After-fits_whole), not-false c.fits_whole.result c.if-not-fits_whole.false-raw, ← c.may_sign.ensures, c.if-may_sign.true)

pub returns : goal.returns
returns c = rw (← (counted (goal.at.returns c).After-fits_whole), not-false c.fits_whole.result c.if-not-fits_whole.false-raw, ← c.may_sign.ensures, c.if-may_sign.false) (ap not (rw (to_z-of_z c.ranges.v) at c.is_negative.ensures))
