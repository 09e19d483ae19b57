-- `writing::groups::put_site` meets its contract: each field is written after the one before it.
use mathlib.Core.Path.{◌≡◌}
use lib.ListN.{length, drop}
use Rattle.days.specs.Dates.{spell_day}
use Rattle.station_groups.specs.Groups.{site_pieces}
use Rattle.basics.proofs.WriteLaws.{nothing_yet, then_one, then_text, then_some, all_written}
use native.Mathlib.Omega.{arith}
use borrow.Author.Rules.{rules}
use Rattle.writing.proofs.groups.put_site.Goals as goal
use Rattle.writing.proofs.groups.put_site.Goals.{Start}

-- the texts have the width of their columns
name_wide : (c : Start) → length c.args.g.name ≡ 20
name_wide c = search rules

country_wide : (c : Start) → length c.args.g.country ≡ 3
country_wide c = search rules

pub returns : goal.returns
unfolding site_pieces
returns c =
    let g = c.args.g in
    let l : length c.args.s.now ≡ 55 = c.requires in
    let w0 = nothing_yet c.args.s.now in
    let w1 = then_one w0 8 (omega arith) (spell_day g.started) c.put_day.ensures c.put_day.auto.s in
    let w2 = then_text w1 20 (omega arith) g.name c.write_text.ensures.s_after (name_wide (goal.at.returns c).Start) c.write_text.auto.s in
    let w3 = then_text w2 3 (omega arith) g.country c.write_text-2.ensures.s_after (country_wide (goal.at.returns c).Start) c.write_text-2.auto.s in
    let w4 = then_some w3 24 (omega arith) (drop 3 (site_pieces g)) c.put_location.ensures c.put_location.auto.s in
    all_written w4 l
