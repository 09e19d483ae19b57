-- `faults::long_fields::long_field` meets its contract: so many fields are passed, and the others are still to come.
use mathlib.Core.Path.{◌≡◌, ap, ◌∙◌}
use Prim.Native.Nat.{◌-◌}
use lib.ListN.{length, get_or}
use Rattle.columns.proofs.TextLaws.{from_on}
use Rattle.basics.specs.declared.Place.{Place}
use Rattle.station.specs.Places.{station_places}
use Rattle.semicolons.specs.Lines.{line_fields}
use Rattle.faults.specs.Faults.{long_field}
use Rattle.faults.proofs.LookLaws.{none_looked, all_looked, long_here, look_on, columns_of, field_here}
use Rattle.faults.proofs.long_fields.long_field.Goals as goal

pub loop-k-init : goal.loop-k-init
loop-k-init c = none_looked station_places c.args.line.now

pub returns-then-most-length : goal.returns-then-most-length
unfolding long_field line_fields
returns-then-most-length c =
    let line = c.args.line.now in
    let field = field_here line c.loop-k.at c.field_length-length.result _ c.loop-k.invariant.inside (from_on line c.loop-k.at) c.field_length-length.ensures in
    let wide : c.station_place-place.result.length ≡ (get_or station_places c.loop-k.k (0, 0)).1 = ap (λ (p : Place). p.length) c.station_place-place.ensures ∙ columns_of station_places c.loop-k.k in
    long_here station_places line c.loop-k.k c.loop-k.at c.loop-k.invariant c.loop-k-test.true _ _ field.0 wide c.if-most-length.true

pub loop-k-preserved : goal.loop-k-preserved
loop-k-preserved c =
    let line = c.args.line.now in
    let field = field_here line c.loop-k.at c.field_length-length.result _ c.loop-k.invariant.inside (from_on line c.loop-k.at) c.field_length-length.ensures in
    let wide : c.station_place-place.result.length ≡ (get_or station_places c.loop-k.k (0, 0)).1 = ap (λ (p : Place). p.length) c.station_place-place.ensures ∙ columns_of station_places c.loop-k.k in
    look_on station_places line c.loop-k.k c.loop-k.at c.loop-k.invariant c.loop-k-test.true _ _ _ field.0 wide c.if-most-length.false c.past-at.ensures.0 (c.past-at.ensures.1 ∙ field.2)

pub returns : goal.returns
unfolding long_field line_fields
returns c =
    all_looked station_places c.args.line.now c.loop-k.k c.loop-k.at c.loop-k.invariant c.loop-k-test.false
