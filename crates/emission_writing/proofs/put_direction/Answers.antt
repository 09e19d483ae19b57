-- `emission_writing::put_direction` meets its contract: each field is written after the one before it.
use mathlib.Core.Path.{◌≡◌}
use mathlib.Core.Bool.{true, false}
use lib.ListN.{length}
use Rattle.formats.specs.Tenths.{spell_tenths}
use Rattle.station_groups.specs.Groups.{emission_pieces}
use Rattle.basics.proofs.WriteLaws.{nothing_yet, then_one, all_written}
use native.Mathlib.Omega.{arith}
use Rattle.emission_writing.proofs.put_direction.Goals as goal

pub returns : goal.returns
unfolding emission_pieces
returns c =
    let g = c.args.g in
    let l : length c.args.s.now ≡ 10 = c.requires in
    let w0 = nothing_yet c.args.s.now in
    let w1 = then_one w0 5 (omega arith) (spell_tenths 3 1 false g.azimuth) c.put_tenths.ensures c.put_tenths.auto.s in
    let w2 = then_one w1 5 (omega arith) (spell_tenths 2 1 true g.elevation) c.put_tenths-2.ensures c.put_tenths-2.auto.s in
    all_written w2 l
