-- `station::typed::typed_first_between` meets its contract: each test of the code is a rule.
use mathlib.Core.Path.{◌∙◌}
use Rattle.station.specs.Groups.{first_between}
use Rattle.station.proofs.typed.typed_first_between.Goals as goal

pub returns : goal.returns
unfolding first_between
returns c =
    c.first_broken.ensures
    ∙ rw (
      c.is_heard_or_sent.ensures,
      c.is_powered_to_send.ensures,
      c.is_fixed_at_a_point.ensures,
      c.is_mobile_undirected.ensures,
    )
