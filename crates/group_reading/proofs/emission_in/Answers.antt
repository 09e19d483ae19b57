-- `group_reading::emission_in` meets its contract: each field is read from its own columns.
use Rattle.columns.proofs.TextLaws.{text_there}
use lib.ListN.{length}
use mathlib.Core.Path.{◌≡◌, sym, ◌∙◌}
use Rattle.station.specs.Places.{fields_of}
use Rattle.station.specs.Values.{station_of}
use Rattle.station.specs.Codes.{value_of}
use Rattle.asked_fields.proofs.PartLaws.{head_field}
use native.Mathlib.Omega.{arith}
use Rattle.group_reading.proofs.emission_in.Goals as goal

pub returns : goal.returns
unfolding value_of station_of fields_of
returns c =
    let r = c.args.rec.now in
    let l : length r ≡ 219 = c.requires in
    λ k. record {
      designation = (c.text-designation.ensures ∙ text_there 9 75 r (omega arith)) k;
      power = c.read_tenths-power.ensures k;
      basis = sym (head_field 1 90 r (omega arith)) k;
      azimuth = c.read_tenths-azimuth.ensures k;
      elevation = c.read_tenths-elevation.ensures k;
    }
