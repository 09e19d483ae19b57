-- `station::typed::typed_last_between` meets its contract: each test of the code is a rule.
use mathlib.Core.Path.{◌∙◌}
use Rattle.station.specs.Groups.{last_between}
use Rattle.station.proofs.typed.typed_last_between.Goals as goal

pub returns : goal.returns
unfolding last_between
returns c =
    c.first_broken.ensures
    ∙ rw (
      c.is_round_across.ensures,
      c.is_round_upright.ensures,
      c.is_mobile_at_no_height.ensures,
      c.is_heard_with_gain.ensures,
      c.is_repeater_by_name.ensures,
    )
