-- `own_spelling::respell_in_place` meets its contract: the numbers are written anew, and all else stays.
use Rattle.own_spelling.proofs.InPlaceLaws.{fields_hold, location_ready, numbers-written}
use Rattle.own_spelling.proofs.respell_in_place.Goals as goal

pub respell_location-requires : goal.respell_location-requires
respell_location-requires c =
    let r = c.args.rec.now in
    location_ready r c.requires.0 (fields_hold r c.requires.1) c.respell_decimal.new.s c.respell_decimal.auto.s

pub returns : goal.returns
returns c =
    let r = c.args.rec.now in
    numbers-written r c.requires.0 (fields_hold r c.requires.1) _ _ _ _
    c.respell_decimal.ensures c.respell_decimal.auto.s
    c.respell_location.ensures c.respell_location.auto.s
    c.respell_beam.ensures c.respell_beam.auto.s
    c.respell_decimal-2.ensures c.respell_decimal-2.auto.s
