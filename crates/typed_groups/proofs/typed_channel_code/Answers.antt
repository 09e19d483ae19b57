-- `typed_groups::typed_channel_code` meets its contract: each test of the code is a rule of the group.
use mathlib.Core.Path.{◌∙◌}
use Rattle.station_groups.specs.Groups.{channel_rules}
use Rattle.typed_groups.proofs.typed_channel_code.Goals as goal

pub returns : goal.returns
unfolding channel_rules
returns c =
    c.first_broken.ensures
    ∙ rw (
      c.fits_frequency.ensures,
      c.is_category.ensures,
      c.is_class.ensures,
      c.is_service.ensures,
      c.is_users.ensures,
      c.is_carrier.ensures,
    )
