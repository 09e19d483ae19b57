-- `writing::put_station` meets its contract: each group is written after the one before it.
use mathlib.Core.Path.{◌≡◌}
use lib.ListN.{length}
use Rattle.station_groups.specs.Groups.{channel_pieces, site_pieces, emission_pieces, antenna_pieces, coordination_pieces}
use Rattle.station.specs.Spelling.{station_pieces, spell_station}
use Rattle.basics.proofs.WriteLaws.{nothing_yet, then_some, all_written}
use native.Mathlib.Omega.{arith}
use Rattle.writing.proofs.put_station.Goals as goal

pub returns : goal.returns
unfolding spell_station station_pieces channel_pieces site_pieces emission_pieces antenna_pieces coordination_pieces
returns c =
    let s = c.args.s in
    let l : length c.args.buffer.now ≡ 219 = c.requires in
    let w0 = nothing_yet c.args.buffer.now in
    let w1 = then_some w0 20 (omega arith) (channel_pieces s.channel) c.put_channel.ensures c.put_channel.auto.s in
    let w2 = then_some w1 55 (omega arith) (site_pieces s.site) c.put_site.ensures c.put_site.auto.s in
    let w3 = then_some w2 26 (omega arith) (emission_pieces s.emission) c.put_emission.ensures c.put_emission.auto.s in
    let w4 = then_some w3 24 (omega arith) (antenna_pieces s.antenna) c.put_antenna.ensures c.put_antenna.auto.s in
    let w5 = then_some w4 94 (omega arith) (coordination_pieces s.coordination) c.put_coordination.ensures c.put_coordination.auto.s in
    all_written w5 l
