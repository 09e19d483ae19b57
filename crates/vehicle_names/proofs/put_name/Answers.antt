-- `vehicle_names::put_name` meets its contract: three pieces, one after the other.
use native.Mathlib.Omega.{arith}
use mathlib.Core.Path.{◌≡◌, refl}
use lib.ListN.{length}
use Rattle.basics.proofs.WriteLaws.{nothing_yet, then_text, all_written}
use Rattle.vehicles.specs.Names.{before, behind, name_of}
use Rattle.vehicle_names.proofs.put_name.Goals as goal

pub returns : goal.returns
unfolding name_of
returns c =
    let number = c.args.number.now in
    let l : length c.args.name.now ≡ 20 = c.requires.0 in
    let w0 = nothing_yet c.args.name.now in
    let w1 = then_text w0 5 (omega arith) before c.write_text.ensures.s_after refl c.write_text.auto.s in
    let w2 = then_text w1 12 (omega arith) number c.write_text-2.ensures.s_after c.requires.1 c.write_text-2.auto.s in
    let w3 = then_text w2 3 (omega arith) behind c.write_text-3.ensures.s_after refl c.write_text-3.auto.s in
    all_written w3 l
