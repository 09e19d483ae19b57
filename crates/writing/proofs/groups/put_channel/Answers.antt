-- `writing::groups::put_channel` meets its contract: each field is written after the one before it.
use mathlib.Core.Path.{◌≡◌, refl}
use mathlib.Core.List.{[], ◌∷◌}
use lib.ListN.{length, drop}
use Rattle.frequencies.specs.Frequencies.{spell_amount, spell_unit}
use Rattle.station_groups.specs.Groups.{channel_pieces}
use Rattle.basics.proofs.WriteLaws.{nothing_yet, then_one, then_text, then_some, all_written}
use native.Mathlib.Omega.{arith}
use Rattle.writing.proofs.groups.put_channel.Goals as goal

pub returns : goal.returns
unfolding channel_pieces
returns c =
    let g = c.args.g in
    let l : length c.args.s.now ≡ 20 = c.requires in
    let w0 = nothing_yet c.args.s.now in
    let w1 = then_one w0 11 (omega arith) (spell_amount g.transmit) c.put_amount.ensures c.put_amount.auto.s in
    let w2 = then_one w1 1 (omega arith) (spell_unit g.transmit) c.put_unit.ensures c.put_unit.auto.s in
    let w3 = then_text w2 1 (omega arith) (g.category ∷ []) c.write_byte.ensures.s_after refl c.write_byte.auto.s in
    let w4 = then_some w3 7 (omega arith) (drop 3 (channel_pieces g)) c.put_use.ensures c.put_use.auto.s in
    all_written w4 l
