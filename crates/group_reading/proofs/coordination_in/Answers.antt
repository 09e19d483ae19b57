-- `group_reading::coordination_in` meets its contract: each field is read from its own columns.
use Rattle.columns.proofs.TextLaws.{text_there}
use lib.ListN.{length}
use mathlib.Core.Path.{◌≡◌, sym, ◌∙◌}
use Rattle.station.specs.Places.{fields_of}
use Rattle.station.specs.Values.{station_of}
use Rattle.station.specs.Codes.{value_of}
use Rattle.asked_fields.proofs.PartLaws.{head_field}
use native.Mathlib.Omega.{arith}
use Rattle.group_reading.proofs.coordination_in.Goals as goal

pub returns : goal.returns
unfolding value_of station_of fields_of
returns c =
    let r = c.args.rec.now in
    let l : length r ≡ 219 = c.requires in
    λ k. record {
      receive = c.read_frequency-receive.ensures k;
      remarks = (c.text-remarks.ensures ∙ text_there 50 137 r (omega arith)) k;
      status = sym (head_field 1 187 r (omega arith)) k;
      requested = c.day_in-requested.ensures k;
      coordinated = c.day_in-coordinated.ensures k;
      reference = (c.text-reference.ensures ∙ text_there 15 204 r (omega arith)) k;
    }
