-- `typed_groups::typed_coordination_code` meets its contract: each test of the code is a rule of the group.
use mathlib.Core.Path.{◌∙◌}
use Rattle.station_groups.specs.Groups.{coordination_rules}
use Rattle.typed_groups.proofs.typed_coordination_code.Goals as goal

pub returns : goal.returns
unfolding coordination_rules
returns c =
    c.first_broken.ensures
    ∙ rw (
      c.fits_frequency.ensures,
      c.is_remarks.ensures,
      c.is_status.ensures,
      c.fits_day.ensures,
      c.fits_day-2.ensures,
      c.is_reference.ensures,
    )
