-- `carriage_lines::put_carriage` meets its contract: five fields put in, and the others left.
use mathlib.Core.Path.{◌≡◌, refl, ap, ◌∙◌}
use Prim.Native.Nat.{ℕ, ◌≤◌}
use lib.ListN.{length, take, drop}
use Rattle.basics.proofs.WriteLaws.{nothing_yet, then-sized, then_text, all_written}
use Rattle.station.specs.Places.{station_places}
use Rattle.vehicles.specs.Names.{name_of}
use Rattle.semicolons.specs.Fields.{padded_field}
use Rattle.semicolons.specs.declared.Side.TheVariants as side
use Rattle.carriage_lines.specs.Lines.{field_behind, carriage_number}
use Rattle.carriage_lines.proofs.PutLaws.{then-left, own_room, name_wide, made_is}
use native.Mathlib.Omega.{arith}
use borrow.Author.Rules.{rules}
use Rattle.carriage_lines.proofs.put_carriage.Goals as goal

pub put_own-requires : goal.put_own-requires
put_own-requires c =
    let room : length (field_behind 1 c.args.line.now) ≤ 11 = (own_room c.args.line.now c.requires.1).0 in
    search rules

pub put_own-requires-2 : goal.put_own-requires-2
put_own-requires-2 c =
    let room : length (field_behind 2 c.args.line.now) ≤ 1 = (own_room c.args.line.now c.requires.1).1 in
    search rules

pub name_of-name-requires : goal.name_of-name-requires
name_of-name-requires c = ap length c.field_after.ensures ∙ c.requires.2

pub put_own-requires-3 : goal.put_own-requires-3
put_own-requires-3 c =
    let room : length (field_behind 3 c.args.line.now) ≤ 6 = (own_room c.args.line.now c.requires.1).2 in
    search rules

pub put_own-requires-4 : goal.put_own-requires-4
put_own-requires-4 c =
    let room : length (field_behind 4 c.args.line.now) ≤ 15 = (own_room c.args.line.now c.requires.1).3 in
    search rules

pub returns : goal.returns
returns c =
    let rec = c.args.rec.now in
    let line = c.args.line.now in
    let l : length rec ≡ 219 = c.requires.0 in
    let name : c.name_of-name.result ≡ name_of (carriage_number line) = c.name_of-name.ensures ∙ ap name_of c.field_after.ensures in
    let wide : length c.name_of-name.result ≡ 20 = ap length name ∙ name_wide (carriage_number line) c.requires.2 in
    let w1 = then-sized (nothing_yet rec) 11 (omega arith) (λ (w : ℕ). padded_field side.Left w (field_behind 1 line)) c.put_own.ensures c.put_own.auto.columns in
    let w2 = then-sized w1 1 (omega arith) (λ (w : ℕ). padded_field side.Right w (field_behind 2 line)) c.put_own-2.ensures c.put_own-2.auto.columns in
    let w3 = then-left w2 (take 6 (drop 2 station_places)) 16 refl (omega arith) in
    let w4 = then_text w3 20 (omega arith) c.name_of-name.result c.write_text.ensures.s_after wide c.write_text.auto.s in
    let w5 = then-left w4 (take 5 (drop 9 station_places)) 36 refl (omega arith) in
    let w6 = then-sized w5 6 (omega arith) (λ (w : ℕ). padded_field side.Left w (field_behind 3 line)) c.put_own-3.ensures c.put_own-3.auto.columns in
    let w7 = then-left w6 (take 14 (drop 15 station_places)) 114 refl (omega arith) in
    let w8 = then-sized w7 15 (omega arith) (λ (w : ℕ). padded_field side.Right w (field_behind 4 line)) c.put_own-4.ensures c.put_own-4.auto.columns in
    all_written w8 l ∙ made_is line rec c.name_of-name.result name
