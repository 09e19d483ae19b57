-- `typed_groups::typed_antenna_code` meets its contract: each test of the code is a rule of the group.
use mathlib.Core.Path.{◌∙◌}
use Rattle.station_groups.specs.Groups.{antenna_rules}
use Rattle.typed_groups.proofs.typed_antenna_code.Goals as goal

pub returns : goal.returns
unfolding antenna_rules
returns c =
    c.first_broken.ensures
    ∙ rw (
      c.is_polarisation.ensures,
      c.fits_tenths.ensures,
      c.fits_ground.ensures,
      c.is_antenna.ensures,
      c.is_antenna-2.ensures,
    )
