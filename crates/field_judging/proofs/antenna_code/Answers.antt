-- `field_judging::antenna_code` meets its contract: each test of the code is a rule of the group, asked where those before it hold.
use mathlib.Core.Path.{◌≡◌, sym, ◌∙◌}
use lib.ListN.{drop}
use Rattle.basics.specs.Rules.{first_broken}
use Rattle.station.specs.Places.{fields_of}
use Rattle.station_groups.specs.Groups.{antenna_fields}
use Rattle.coordination_judging.proofs.PartLaws.{passing, stopping, passed_all}
use borrow.Author.Rules.{rules}
use Rattle.field_judging.proofs.antenna_code.Goals as goal
use Rattle.field_judging.proofs.antenna_code.Goals.{Else-not-is_antenna, Else-not-is_antenna-2, Else-not-is_polarisation, Else-not-is_tenths, Else-not-is_whole_filled}

-- the rules that hold are passed
past_1 : (c : Else-not-is_polarisation) → let rules = antenna_fields (fields_of c.args.rec.now) in first_broken 19 rules ≡ first_broken 20 (drop 1 rules)
unfolding antenna_fields fields_of
past_1 c = passing 19 _ c.is_polarisation.ensures c.if-not-is_polarisation.false-raw

past_2 : (c : Else-not-is_tenths) → (let rules = antenna_fields (fields_of c.args.rec.now) in first_broken 19 rules ≡ first_broken 20 (drop 1 rules)) → let rules = antenna_fields (fields_of c.args.rec.now) in first_broken 19 rules ≡ first_broken 21 (drop 2 rules)
unfolding antenna_fields fields_of
past_2 c past_1 = past_1 ∙ passing 20 _ c.is_tenths.ensures c.if-not-is_tenths.false-raw

past_3 : (c : Else-not-is_whole_filled) → (let rules = antenna_fields (fields_of c.args.rec.now) in first_broken 19 rules ≡ first_broken 21 (drop 2 rules)) → let rules = antenna_fields (fields_of c.args.rec.now) in first_broken 19 rules ≡ first_broken 22 (drop 3 rules)
unfolding antenna_fields fields_of
past_3 c past_2 = past_2 ∙ passing 21 _ c.is_whole_filled.ensures c.if-not-is_whole_filled.false-raw

past_4 : (c : Else-not-is_antenna) → (let rules = antenna_fields (fields_of c.args.rec.now) in first_broken 19 rules ≡ first_broken 22 (drop 3 rules)) → let rules = antenna_fields (fields_of c.args.rec.now) in first_broken 19 rules ≡ first_broken 23 (drop 4 rules)
unfolding antenna_fields fields_of
past_4 c past_3 = past_3 ∙ passing 22 _ c.is_antenna.ensures c.if-not-is_antenna.false-raw

past_5 : (c : Else-not-is_antenna-2) → (let rules = antenna_fields (fields_of c.args.rec.now) in first_broken 19 rules ≡ first_broken 23 (drop 4 rules)) → let rules = antenna_fields (fields_of c.args.rec.now) in first_broken 19 rules ≡ first_broken 24 (drop 5 rules)
unfolding antenna_fields fields_of
past_5 c past_4 = past_4 ∙ passing 23 _ c.is_antenna-2.ensures c.if-not-is_antenna-2.false-raw

pub returns-then-not-is_polarisation : goal.returns-then-not-is_polarisation
unfolding antenna_fields fields_of
returns-then-not-is_polarisation c = stopping 19 _ c.is_polarisation.ensures c.if-not-is_polarisation.true-raw

pub returns-then-not-is_tenths : goal.returns-then-not-is_tenths
unfolding antenna_fields fields_of
returns-then-not-is_tenths c = stopping 20 _ c.is_tenths.ensures c.if-not-is_tenths.true-raw ∙ sym (past_1 (goal.at.returns-then-not-is_tenths c).Else-not-is_polarisation)

pub returns-then-not-is_whole_filled : goal.returns-then-not-is_whole_filled
unfolding antenna_fields fields_of
returns-then-not-is_whole_filled c = stopping 21 _ c.is_whole_filled.ensures c.if-not-is_whole_filled.true-raw ∙ sym (past_2 (goal.at.returns-then-not-is_whole_filled c).Else-not-is_tenths (past_1 (goal.at.returns-then-not-is_whole_filled c).Else-not-is_polarisation))

pub returns-then-not-is_antenna : goal.returns-then-not-is_antenna
unfolding antenna_fields fields_of
returns-then-not-is_antenna c = stopping 22 _ c.is_antenna.ensures c.if-not-is_antenna.true-raw ∙ sym (past_3 (goal.at.returns-then-not-is_antenna c).Else-not-is_whole_filled (past_2 (goal.at.returns-then-not-is_antenna c).Else-not-is_tenths (past_1 (goal.at.returns-then-not-is_antenna c).Else-not-is_polarisation)))

pub returns-then-not-is_antenna-2 : goal.returns-then-not-is_antenna-2
unfolding antenna_fields fields_of
returns-then-not-is_antenna-2 c = stopping 23 _ c.is_antenna-2.ensures c.if-not-is_antenna-2.true-raw ∙ sym (past_4 (goal.at.returns-then-not-is_antenna-2 c).Else-not-is_antenna (past_3 (goal.at.returns-then-not-is_antenna-2 c).Else-not-is_whole_filled (past_2 (goal.at.returns-then-not-is_antenna-2 c).Else-not-is_tenths (past_1 (goal.at.returns-then-not-is_antenna-2 c).Else-not-is_polarisation))))

pub returns : goal.returns
unfolding antenna_fields fields_of
returns c = passed_all 24 ∙ sym (past_5 c (past_4 (goal.at.returns c).Else-not-is_antenna (past_3 (goal.at.returns c).Else-not-is_whole_filled (past_2 (goal.at.returns c).Else-not-is_tenths (past_1 (goal.at.returns c).Else-not-is_polarisation)))))
