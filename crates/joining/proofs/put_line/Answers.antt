-- `joining::put_line` meets its contract: so many fields stand, and the others are still to come.
use mathlib.Core.Path.{refl}
use Prim.Native.Nat.{◌+◌, ◌-◌, ◌≤◌}
use lib.ListN.{length, get_or}
use Rattle.station.specs.Places.{station_places, fields_of}
use Rattle.semicolons.specs.Fields.{station_sides}
use Rattle.joining.proofs.OutLaws.{none_lined, line_inside, all_lined, next_inside, mark-room, next_lined}
use native.Mathlib.Omega.{arith}
use borrow.Author.Rules.{rules}
use Rattle.joining.proofs.put_line.Goals as goal

pub loop-k-init : goal.loop-k-init
loop-k-init c =
    (c.requires.1, none_lined station_sides station_places c.args.rec.now c.args.out.now c.requires.0 c.requires.1 refl)

pub overflow_add-end : goal.overflow_add-end
overflow_add-end c =
    let end : c.loop-k.column + (get_or station_places c.loop-k.k (0, 0)).1 ≤ length c.args.rec.now = next_inside station_sides station_places c.args.rec.now c.loop-k.out c.loop-k.k c.loop-k.column c.loop-k.at c.loop-k.invariant.1 refl c.loop-k-test.true in
    let size = c.requires.0 in
    omega (arith, end, c.width_after.ensures, size)

pub slice_bounds-outgoing-count : goal.slice_bounds-outgoing-count
slice_bounds-outgoing-count c =
    let end : c.loop-k.column + (get_or station_places c.loop-k.k (0, 0)).1 ≤ length c.args.rec.now = next_inside station_sides station_places c.args.rec.now c.loop-k.out c.loop-k.k c.loop-k.column c.loop-k.at c.loop-k.invariant.1 refl c.loop-k-test.true in
    let size = c.requires.0 in
    omega (arith, end, c.width_after.ensures, size)

pub slice_bounds-outgoing-start : goal.slice_bounds-outgoing-start
slice_bounds-outgoing-start c =
    let end : c.loop-k.column + (get_or station_places c.loop-k.k (0, 0)).1 ≤ length c.args.rec.now = next_inside station_sides station_places c.args.rec.now c.loop-k.out c.loop-k.k c.loop-k.column c.loop-k.at c.loop-k.invariant.1 refl c.loop-k-test.true in
    let size = c.requires.0 in
    omega (arith, end, c.width_after.ensures, size)

pub slice_bounds-outgoing-end : goal.slice_bounds-outgoing-end
slice_bounds-outgoing-end c =
    let end : c.loop-k.column + (get_or station_places c.loop-k.k (0, 0)).1 ≤ length c.args.rec.now = next_inside station_sides station_places c.args.rec.now c.loop-k.out c.loop-k.k c.loop-k.column c.loop-k.at c.loop-k.invariant.1 refl c.loop-k-test.true in
    let size = c.requires.0 in
    omega (arith, end, c.width_after.ensures, size)

pub put_marked-requires : goal.put_marked-requires
put_marked-requires c =
    mark-room station_sides station_places c.args.rec.now c.loop-k.out c.loop-k.k c.loop-k.column c.loop-k.at c.loop-k.invariant.1 refl c.loop-k-test.true _ _ _ c.width_after.ensures c.side_after.ensures c.outgoing-text.ensures

pub loop-k-preserved : goal.loop-k-preserved
loop-k-preserved c = (
  search rules,
  next_lined station_sides station_places c.args.rec.now c.loop-k.out c.loop-k.k c.loop-k.column c.loop-k.at c.loop-k.invariant.1 refl c.loop-k-test.true _ _ _ c.width_after.ensures c.side_after.ensures c.outgoing-text.ensures
      _ _ 29 c.mark_after.ensures refl (search rules) c.put_marked.ensures,
)

pub returns : goal.returns
unfolding fields_of
returns c =
    let rec = c.args.rec.now in
    let size = c.loop-k.invariant.0 in
    let inside : c.loop-k.at ≤ length c.loop-k.out = line_inside station_sides station_places rec c.loop-k.out c.loop-k.k c.loop-k.column c.loop-k.at c.loop-k.invariant.1 refl in
    (omega (arith, size, inside), all_lined station_sides station_places rec c.loop-k.out c.loop-k.k c.loop-k.column c.loop-k.at c.loop-k.invariant.1 refl c.loop-k-test.false)
