-- `writing::groups::put_use` meets its contract: each field is written after the one before it.
use mathlib.Core.Path.{◌≡◌, refl}
use mathlib.Core.List.{[], ◌∷◌}
use lib.ListN.{length}
use Rattle.station_groups.specs.Groups.{channel_pieces}
use Rattle.basics.proofs.WriteLaws.{nothing_yet, then_text, all_written}
use native.Mathlib.Omega.{arith}
use borrow.Author.Rules.{rules}
use Rattle.writing.proofs.groups.put_use.Goals as goal
use Rattle.writing.proofs.groups.put_use.Goals.{Start}

-- the texts have the width of their columns
class_wide : (c : Start) → length c.args.g.class ≡ 2
class_wide c = search rules

service_wide : (c : Start) → length c.args.g.service ≡ 2
service_wide c = search rules

users_wide : (c : Start) → length c.args.g.users ≡ 2
users_wide c = search rules

pub returns : goal.returns
unfolding channel_pieces
returns c =
    let g = c.args.g in
    let l : length c.args.s.now ≡ 7 = c.requires in
    let w0 = nothing_yet c.args.s.now in
    let w1 = then_text w0 2 (omega arith) g.class c.write_text.ensures.s_after (class_wide (goal.at.returns c).Start) c.write_text.auto.s in
    let w2 = then_text w1 2 (omega arith) g.service c.write_text-2.ensures.s_after (service_wide (goal.at.returns c).Start) c.write_text-2.auto.s in
    let w3 = then_text w2 2 (omega arith) g.users c.write_text-3.ensures.s_after (users_wide (goal.at.returns c).Start) c.write_text-3.auto.s in
    let w4 = then_text w3 1 (omega arith) (g.carrier ∷ []) c.write_byte.ensures.s_after refl c.write_byte.auto.s in
    all_written w4 l
