-- `filling::put_fields` meets its contract: so many fields stand, and the others are still to come.
use mathlib.Core.Path.{refl, sym, ◌∙◌}
use mathlib.Core.Bool.{false≢true}
use Prim.Native.Nat.{◌+◌, ◌≤◌}
use lib.ListN.{length, get_or}
use Rattle.station.specs.Places.{station_places}
use Rattle.semicolons.specs.Fields.{station_sides}
use Rattle.semicolons.specs.Lines.{line_fields, record_of}
use Rattle.filling.proofs.FillLaws.{none_filled, all_fit, all_filled, next_room, field_too_long, part_filled, long_there, ends_inside, short_there, next_there, padded_there}
use native.Mathlib.Omega.{arith}
use borrow.Author.Rules.{rules}
use Rattle.filling.proofs.put_fields.Goals as goal
use Rattle.filling.proofs.put_fields.Goals.{After-side_after-side}

pub loop-k-init : goal.loop-k-init
loop-k-init c =
    (c.requires, none_filled station_sides station_places c.args.line.now c.args.rec.now c.requires)

-- the next field has its columns in the record
room : (c : After-side_after-side) → c.loop-k.column + c.width_after-w.result ≤ 219
room c =
    let end : c.loop-k.column + (get_or station_places c.loop-k.k (0, 0)).1 ≤ length c.loop-k.rec = next_room station_sides station_places c.args.line.now c.loop-k.rec c.loop-k.k c.loop-k.at c.loop-k.column c.loop-k.invariant.1 refl c.loop-k-test.true in
    let size = c.loop-k.invariant.0 in
    omega (arith, end, c.width_after-w.ensures, size)

pub overflow_add-end : goal.overflow_add-end
overflow_add-end c = omega (arith, (room c))

pub slice_bounds-put_field-count : goal.slice_bounds-put_field-count
slice_bounds-put_field-count c = omega (arith, (room c))

pub slice_bounds-put_field-start : goal.slice_bounds-put_field-start
slice_bounds-put_field-start c = omega (arith, (room c))

pub slice_bounds-put_field-end : goal.slice_bounds-put_field-end
slice_bounds-put_field-end c = omega (arith, (room c), c.loop-k.invariant.0)

pub slice_bounds-put_field-count-in-loop-k : goal.slice_bounds-put_field-count-in-loop-k
slice_bounds-put_field-count-in-loop-k c = let inside = c.loop-k.invariant.1.inside in search rules

pub slice_bounds-put_field-start-in-loop-k : goal.slice_bounds-put_field-start-in-loop-k
slice_bounds-put_field-start-in-loop-k c = let inside = c.loop-k.invariant.1.inside in search rules

pub slice_bounds-put_field-end-in-loop-k : goal.slice_bounds-put_field-end-in-loop-k
slice_bounds-put_field-end-in-loop-k c = let inside = c.loop-k.invariant.1.inside in search rules

pub returns-then-w-n : goal.returns-then-w-n
unfolding line_fields
returns-then-w-n c =
    let w = c.width_after-w.result in
    let end = rw (← c.loop-k.invariant.0) at (room (goal.at.returns-then-w-n c).After-side_after-side) in
    let long = long_there c.args.line.now c.loop-k.rec c.loop-k.at c.loop-k.column w c.loop-k.invariant.1.inside end _ c.if-w-n.true c.put_field-n.ensures.1 in
    record {
      value = sym (field_too_long station_sides station_places c.args.line.now c.loop-k.rec c.loop-k.k c.loop-k.at c.loop-k.column c.loop-k.invariant.1 refl c.loop-k-test.true (rw (← c.width_after-w.ensures) long));
      rec_after = λ e. absurd (false≢true e);
    }

pub overflow_add-at : goal.overflow_add-at
overflow_add-at c =
    let w = c.width_after-w.result in
    let end = rw (← c.loop-k.invariant.0) at (room (goal.at.overflow_add-at c).After-side_after-side) in
    let inside = ends_inside c.args.line.now c.loop-k.rec c.loop-k.at c.loop-k.column w c.loop-k.invariant.1.inside end _ _ _ c.if-w-n.false c.put_field-n.ensures.0 in
    search rules

pub loop-k-preserved : goal.loop-k-preserved
loop-k-preserved c =
    let w = c.width_after-w.result in
    let end = rw (← c.loop-k.invariant.0) at (room (goal.at.loop-k-preserved c).After-side_after-side) in
    let short = c.if-w-n.false in
    let put = c.put_field-n.ensures.0 in (
      search rules,
      part_filled station_sides station_places c.args.line.now c.loop-k.rec c.loop-k.k c.loop-k.at c.loop-k.column c.loop-k.invariant.1 refl c.loop-k-test.true _ _ _ _ _
          c.width_after-w.ensures c.side_after-side.ensures refl (short_there c.args.line.now c.loop-k.rec c.loop-k.at c.loop-k.column w c.loop-k.invariant.1.inside end _ _ _ short put) c.past-at.ensures.0 (c.past-at.ensures.1 ∙ next_there c.args.line.now c.loop-k.rec c.loop-k.at c.loop-k.column w c.loop-k.invariant.1.inside end _ _ _ short put) (padded_there c.args.line.now c.loop-k.rec c.loop-k.at c.loop-k.column w c.loop-k.invariant.1.inside end _ _ _ short put),
    )

pub returns : goal.returns
unfolding line_fields record_of
returns c =
    let line = c.args.line.now in
    record {
      value = sym (all_fit station_sides station_places line c.loop-k.rec c.loop-k.k c.loop-k.at c.loop-k.column c.loop-k.invariant.1 refl c.loop-k-test.false);
      rec_after = λ e. all_filled station_sides station_places line c.loop-k.rec c.loop-k.k c.loop-k.at c.loop-k.column c.loop-k.invariant.1 refl c.loop-k-test.false;
    }
