-- `typed_groups::typed_site_code` meets its contract: each test of the code is a rule of the group.
use mathlib.Core.Path.{◌∙◌}
use Rattle.station_groups.specs.Groups.{site_rules}
use Rattle.typed_groups.proofs.typed_site_code.Goals as goal

pub returns : goal.returns
unfolding site_rules
returns c =
    c.first_broken.ensures
    ∙ rw (
      c.fits_day.ensures,
      c.is_station_name.ensures,
      c.is_country.ensures,
      c.fits_position.ensures,
      c.fits_radius.ensures,
      c.fits_height.ensures,
    )
