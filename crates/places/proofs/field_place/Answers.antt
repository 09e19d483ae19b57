-- `places::field_place` meets its contract.
use Rattle.places.specs.Places.{places_of}
use Rattle.places.proofs.PlaceLaws.{not_header}
use Rattle.places.proofs.field_place.Goals as goal

pub returns-then-k-eq0 : goal.returns-then-k-eq0
unfolding places_of
returns-then-k-eq0 c = rw c.if-k-eq0.true c.header_place.ensures

pub returns : goal.returns
returns c = rw (not_header c.args.k c.if-k-eq0.false) c.station_place.ensures
