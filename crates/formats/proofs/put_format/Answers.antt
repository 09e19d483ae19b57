-- `formats::put_format` meets its contract: its digits are those of the format.
use mathlib.Core.Path.{◌∙◌}
use mir.Facts.{to_z-of_z}
use Rattle.formats.proofs.put_format.Goals as goal

pub put_decimal-requires : goal.put_decimal-requires
put_decimal-requires c =
    rw (c.may_sign-sign.ensures, c.digits_after-b.ensures, c.digits_before-a.ensures) c.requires

pub returns : goal.returns
returns c =
    c.put_decimal.ensures ∙ rw (to_z-of_z c.ranges.v, c.may_sign-sign.ensures, c.digits_after-b.ensures, c.digits_before-a.ensures)
