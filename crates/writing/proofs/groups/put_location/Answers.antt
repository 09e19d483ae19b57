-- `writing::groups::put_location` meets its contract: each field is written after the one before it.
use mathlib.Core.Path.{◌≡◌}
use lib.ListN.{length}
use Rattle.distances.specs.Distances.{spell_radius, spell_height}
use Rattle.positions.specs.Positions.{spell_position}
use Rattle.station_groups.specs.Groups.{site_pieces}
use Rattle.basics.proofs.WriteLaws.{nothing_yet, then_one, all_written}
use native.Mathlib.Omega.{arith}
use Rattle.writing.proofs.groups.put_location.Goals as goal

pub returns : goal.returns
unfolding site_pieces
returns c =
    let g = c.args.g in
    let l : length c.args.s.now ≡ 24 = c.requires in
    let w0 = nothing_yet c.args.s.now in
    let w1 = then_one w0 15 (omega arith) (spell_position g.position) c.put_position.ensures c.put_position.auto.s in
    let w2 = then_one w1 5 (omega arith) (spell_radius g.radius) c.put_radius.ensures c.put_radius.auto.s in
    let w3 = then_one w2 4 (omega arith) (spell_height g.height) c.put_height.ensures c.put_height.auto.s in
    all_written w3 l
