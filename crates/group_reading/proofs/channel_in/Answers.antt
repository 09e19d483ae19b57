-- `group_reading::channel_in` meets its contract: each field is read from its own columns.
use Rattle.columns.proofs.TextLaws.{text_there}
use lib.ListN.{length}
use mathlib.Core.Path.{◌≡◌, sym, ◌∙◌}
use Rattle.station.specs.Places.{fields_of}
use Rattle.station.specs.Values.{station_of}
use Rattle.station.specs.Codes.{value_of}
use Rattle.asked_fields.proofs.PartLaws.{head_field}
use native.Mathlib.Omega.{arith}
use Rattle.group_reading.proofs.channel_in.Goals as goal

pub returns : goal.returns
unfolding value_of station_of fields_of
returns c =
    let r = c.args.rec.now in
    let l : length r ≡ 219 = c.requires in
    λ k. record {
      transmit = c.read_frequency-transmit.ensures k;
      category = sym (head_field 1 12 r (omega arith)) k;
      class = (c.text-class.ensures ∙ text_there 2 13 r (omega arith)) k;
      service = (c.text-service.ensures ∙ text_there 2 15 r (omega arith)) k;
      users = (c.text-users.ensures ∙ text_there 2 17 r (omega arith)) k;
      carrier = sym (head_field 1 19 r (omega arith)) k;
    }
