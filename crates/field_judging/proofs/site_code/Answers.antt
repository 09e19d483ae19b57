-- `field_judging::site_code` meets its contract: each test of the code is a rule of the group, asked where those before it hold.
use mathlib.Core.Path.{◌≡◌, sym, ◌∙◌}
use lib.ListN.{drop}
use Rattle.basics.specs.Rules.{first_broken}
use Rattle.station.specs.Places.{fields_of}
use Rattle.station_groups.specs.Groups.{site_fields}
use Rattle.coordination_judging.proofs.PartLaws.{passing, stopping, passed_all}
use borrow.Author.Rules.{rules}
use Rattle.field_judging.proofs.site_code.Goals as goal
use Rattle.field_judging.proofs.site_code.Goals.{Else-not-is_country, Else-not-is_day, Else-not-is_height, Else-not-is_position, Else-not-is_station_name, Else-not-is_whole_filled}

-- the rules that hold are passed
past_1 : (c : Else-not-is_day) → let rules = site_fields (fields_of c.args.rec.now) in first_broken 8 rules ≡ first_broken 9 (drop 1 rules)
unfolding site_fields fields_of
past_1 c = passing 8 _ c.is_day.ensures c.if-not-is_day.false-raw

past_2 : (c : Else-not-is_station_name) → (let rules = site_fields (fields_of c.args.rec.now) in first_broken 8 rules ≡ first_broken 9 (drop 1 rules)) → let rules = site_fields (fields_of c.args.rec.now) in first_broken 8 rules ≡ first_broken 10 (drop 2 rules)
unfolding site_fields fields_of
past_2 c past_1 = past_1 ∙ passing 9 _ c.is_station_name.ensures c.if-not-is_station_name.false-raw

past_3 : (c : Else-not-is_country) → (let rules = site_fields (fields_of c.args.rec.now) in first_broken 8 rules ≡ first_broken 10 (drop 2 rules)) → let rules = site_fields (fields_of c.args.rec.now) in first_broken 8 rules ≡ first_broken 11 (drop 3 rules)
unfolding site_fields fields_of
past_3 c past_2 = past_2 ∙ passing 10 _ c.is_country.ensures c.if-not-is_country.false-raw

past_4 : (c : Else-not-is_position) → (let rules = site_fields (fields_of c.args.rec.now) in first_broken 8 rules ≡ first_broken 11 (drop 3 rules)) → let rules = site_fields (fields_of c.args.rec.now) in first_broken 8 rules ≡ first_broken 12 (drop 4 rules)
unfolding site_fields fields_of
past_4 c past_3 = past_3 ∙ passing 11 _ c.is_position.ensures c.if-not-is_position.false-raw

past_5 : (c : Else-not-is_whole_filled) → (let rules = site_fields (fields_of c.args.rec.now) in first_broken 8 rules ≡ first_broken 12 (drop 4 rules)) → let rules = site_fields (fields_of c.args.rec.now) in first_broken 8 rules ≡ first_broken 13 (drop 5 rules)
unfolding site_fields fields_of
past_5 c past_4 = past_4 ∙ passing 12 _ c.is_whole_filled.ensures c.if-not-is_whole_filled.false-raw

past_6 : (c : Else-not-is_height) → (let rules = site_fields (fields_of c.args.rec.now) in first_broken 8 rules ≡ first_broken 13 (drop 5 rules)) → let rules = site_fields (fields_of c.args.rec.now) in first_broken 8 rules ≡ first_broken 14 (drop 6 rules)
unfolding site_fields fields_of
past_6 c past_5 = past_5 ∙ passing 13 _ c.is_height.ensures c.if-not-is_height.false-raw

pub returns-then-not-is_day : goal.returns-then-not-is_day
unfolding site_fields fields_of
returns-then-not-is_day c = stopping 8 _ c.is_day.ensures c.if-not-is_day.true-raw

pub returns-then-not-is_station_name : goal.returns-then-not-is_station_name
unfolding site_fields fields_of
returns-then-not-is_station_name c = stopping 9 _ c.is_station_name.ensures c.if-not-is_station_name.true-raw ∙ sym (past_1 (goal.at.returns-then-not-is_station_name c).Else-not-is_day)

pub returns-then-not-is_country : goal.returns-then-not-is_country
unfolding site_fields fields_of
returns-then-not-is_country c = stopping 10 _ c.is_country.ensures c.if-not-is_country.true-raw ∙ sym (past_2 (goal.at.returns-then-not-is_country c).Else-not-is_station_name (past_1 (goal.at.returns-then-not-is_country c).Else-not-is_day))

pub returns-then-not-is_position : goal.returns-then-not-is_position
unfolding site_fields fields_of
returns-then-not-is_position c = stopping 11 _ c.is_position.ensures c.if-not-is_position.true-raw ∙ sym (past_3 (goal.at.returns-then-not-is_position c).Else-not-is_country (past_2 (goal.at.returns-then-not-is_position c).Else-not-is_station_name (past_1 (goal.at.returns-then-not-is_position c).Else-not-is_day)))

pub returns-then-not-is_whole_filled : goal.returns-then-not-is_whole_filled
unfolding site_fields fields_of
returns-then-not-is_whole_filled c = stopping 12 _ c.is_whole_filled.ensures c.if-not-is_whole_filled.true-raw ∙ sym (past_4 (goal.at.returns-then-not-is_whole_filled c).Else-not-is_position (past_3 (goal.at.returns-then-not-is_whole_filled c).Else-not-is_country (past_2 (goal.at.returns-then-not-is_whole_filled c).Else-not-is_station_name (past_1 (goal.at.returns-then-not-is_whole_filled c).Else-not-is_day))))

pub returns-then-not-is_height : goal.returns-then-not-is_height
unfolding site_fields fields_of
returns-then-not-is_height c = stopping 13 _ c.is_height.ensures c.if-not-is_height.true-raw ∙ sym (past_5 (goal.at.returns-then-not-is_height c).Else-not-is_whole_filled (past_4 (goal.at.returns-then-not-is_height c).Else-not-is_position (past_3 (goal.at.returns-then-not-is_height c).Else-not-is_country (past_2 (goal.at.returns-then-not-is_height c).Else-not-is_station_name (past_1 (goal.at.returns-then-not-is_height c).Else-not-is_day)))))

pub returns : goal.returns
unfolding site_fields fields_of
returns c = passed_all 14 ∙ sym (past_6 c (past_5 (goal.at.returns c).Else-not-is_whole_filled (past_4 (goal.at.returns c).Else-not-is_position (past_3 (goal.at.returns c).Else-not-is_country (past_2 (goal.at.returns c).Else-not-is_station_name (past_1 (goal.at.returns c).Else-not-is_day))))))
