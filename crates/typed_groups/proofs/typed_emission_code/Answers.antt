-- `typed_groups::typed_emission_code` meets its contract: each test of the code is a rule of the group.
use mathlib.Core.Path.{◌∙◌}
use Rattle.station_groups.specs.Groups.{emission_rules}
use Rattle.typed_groups.proofs.typed_emission_code.Goals as goal

pub returns : goal.returns
unfolding emission_rules
returns c =
    c.first_broken.ensures
    ∙ rw (
      c.is_emission.ensures,
      c.fits_tenths.ensures,
      c.is_basis.ensures,
      c.fits_tenths-2.ensures,
      c.fits_tenths-3.ensures,
    )
