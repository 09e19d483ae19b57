-- `showing::has_field` meets its contract: fourteen fields in a header, thirty in a station.
use borrow.Author.Tests.{eq-eqb, ne_eqb}
use Rattle.places.specs.Places.{places_of, field_count}
use Rattle.places.proofs.PlaceLaws.{not_header, le_not_lt}
use Rattle.showing.proofs.has_field.Goals as goal

pub returns-then-j-eq0 : goal.returns-then-j-eq0
returns-then-j-eq0 c = rw (eq-eqb _ _ c.if-j-eq0.true)

pub returns-then-k-eq0 : goal.returns-then-k-eq0
unfolding field_count places_of
returns-then-k-eq0 c = rw (ne_eqb _ _ c.if-j-eq0.false, c.if-k-eq0.true) (le_not_lt c.args.j 14)

pub returns : goal.returns
unfolding field_count
returns c = rw (ne_eqb _ _ c.if-j-eq0.false, not_header c.args.k c.if-k-eq0.false) (le_not_lt c.args.j 30)
