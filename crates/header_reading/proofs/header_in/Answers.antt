-- `header_reading::header_in` meets its contract: each field is read from its own columns.
use Rattle.columns.proofs.TextLaws.{text_there}
use lib.ListN.{length}
use mathlib.Core.Path.{◌≡◌, ◌∙◌}
use Rattle.header.specs.Places.{header_fields}
use Rattle.header.specs.Values.{header_of}
use Rattle.header.specs.Codes.{header_value}
use native.Mathlib.Omega.{arith}
use Rattle.header_reading.proofs.header_in.Goals as goal

pub slice_bounds-text-end : goal.slice_bounds-text-end
slice_bounds-text-end c = omega (arith, c.requires)

pub returns : goal.returns
unfolding header_value header_of header_fields
returns c =
    let r = c.args.rec.now in
    let l : length r ≡ 219 = c.requires in
    λ k. record {
      number = c.amount_in-number.ensures k;
      content = (c.text-content.ensures ∙ text_there 80 2 r (omega arith)) k;
      letter = c.byte-letter.ensures k;
      origin = (c.text-origin.ensures ∙ text_there 3 83 r (omega arith)) k;
      mail = (c.text-mail.ensures ∙ text_there 40 86 r (omega arith)) k;
      telephone = (c.text-telephone.ensures ∙ text_there 20 126 r (omega arith)) k;
      person = (c.text-person.ensures ∙ text_there 20 166 r (omega arith)) k;
      count = c.amount_in-count.ensures k;
      date = c.day_in-date.ensures k;
      destination = (c.text-destination.ensures ∙ text_there 3 200 r (omega arith)) k;
      serial = c.serial_in-serial.ensures k;
      version = (c.text-version.ensures ∙ text_there 3 209 r (omega arith)) k;
      reserve = (c.text-reserve.ensures ∙ text_there 7 212 r (omega arith)) k;
    }
