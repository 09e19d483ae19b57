-- `group_reading::antenna_in` meets its contract: each field is read from its own columns.
use Rattle.columns.proofs.TextLaws.{text_there}
use native.Mathlib.Omega.{arith}
use lib.ListN.{length}
use mathlib.Core.Path.{◌≡◌, ◌∙◌}
use Rattle.station.specs.Places.{fields_of}
use Rattle.station.specs.Values.{station_of}
use Rattle.station.specs.Codes.{value_of}
use Rattle.group_reading.proofs.antenna_in.Goals as goal

pub returns : goal.returns
unfolding value_of station_of fields_of
returns c =
    let r = c.args.rec.now in
    let l : length r ≡ 219 = c.requires in
    λ k. record {
      polarisation = (c.text-polarisation.ensures ∙ text_there 2 101 r (omega arith)) k;
      gain = c.read_tenths-gain.ensures k;
      ground = c.read_ground-ground.ensures k;
      horizontal = (c.text-horizontal.ensures ∙ text_there 7 111 r (omega arith)) k;
      vertical = (c.text-vertical.ensures ∙ text_there 7 118 r (omega arith)) k;
    }
