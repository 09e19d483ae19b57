-- `group_reading::site_in` meets its contract: each field is read from its own columns, and rule 11 lets 4C be read.
use Rattle.columns.proofs.TextLaws.{text_there}
use native.Mathlib.Omega.{arith}
use lib.ListN.{length}
use mathlib.Core.Path.{◌≡◌, ◌∙◌}
use Rattle.basics.proofs.RuleLaws.{rule}
use Rattle.station_groups.specs.Groups.{channel_fields, site_fields, emission_fields, antenna_fields, coordination_fields}
use Rattle.station.specs.Rules.{field_rules}
use Rattle.station.specs.Places.{fields_of}
use Rattle.station.specs.Values.{station_of}
use Rattle.station.specs.Codes.{value_of}
use Rattle.group_reading.proofs.site_in.Goals as goal

pub position_in-position-requires : goal.position_in-position-requires
unfolding fields_of field_rules channel_fields site_fields emission_fields antenna_fields coordination_fields
position_in-position-requires c =
    rule (field_rules (fields_of c.args.rec.now)) c.requires.1 11

pub returns : goal.returns
unfolding value_of station_of fields_of
returns c =
    let r = c.args.rec.now in
    let l : length r ≡ 219 = c.requires.0 in
    λ k. record {
      started = c.day_in-started.ensures k;
      name = (c.text-name.ensures ∙ text_there 20 28 r (omega arith)) k;
      country = (c.text-country.ensures ∙ text_there 3 48 r (omega arith)) k;
      position = c.position_in-position.ensures k;
      radius = c.read_radius-radius.ensures k;
      height = c.read_height-height.ensures k;
    }
