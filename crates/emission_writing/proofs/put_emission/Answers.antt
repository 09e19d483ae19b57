-- `emission_writing::put_emission` meets its contract: each field is written after the one before it.
use mathlib.Core.Path.{◌≡◌, refl}
use mathlib.Core.Bool.{true}
use mathlib.Core.List.{[], ◌∷◌}
use lib.ListN.{length, drop}
use Rattle.formats.specs.Tenths.{spell_tenths}
use Rattle.station_groups.specs.Groups.{emission_pieces}
use Rattle.basics.proofs.WriteLaws.{nothing_yet, then_one, then_text, then_some, all_written}
use native.Mathlib.Omega.{arith}
use borrow.Author.Rules.{rules}
use Rattle.emission_writing.proofs.put_emission.Goals as goal
use Rattle.emission_writing.proofs.put_emission.Goals.{Start}

-- the texts have the width of their columns
designation_wide : (c : Start) → length c.args.g.designation ≡ 9
designation_wide c = search rules

pub returns : goal.returns
unfolding emission_pieces
returns c =
    let g = c.args.g in
    let l : length c.args.s.now ≡ 26 = c.requires in
    let w0 = nothing_yet c.args.s.now in
    let w1 = then_text w0 9 (omega arith) g.designation c.write_text.ensures.s_after (designation_wide (goal.at.returns c).Start) c.write_text.auto.s in
    let w2 = then_one w1 6 (omega arith) (spell_tenths 3 1 true g.power) c.put_tenths.ensures c.put_tenths.auto.s in
    let w3 = then_text w2 1 (omega arith) (g.basis ∷ []) c.write_byte.ensures.s_after refl c.write_byte.auto.s in
    let w4 = then_some w3 10 (omega arith) (drop 3 (emission_pieces g)) c.put_direction.ensures c.put_direction.auto.s in
    all_written w4 l
