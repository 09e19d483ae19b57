-- `field_judging::emission_code` meets its contract: each test of the code is a rule of the group, asked where those before it hold.
use mathlib.Core.Path.{◌≡◌, sym, ◌∙◌}
use lib.ListN.{take, drop}
use Rattle.columns.specs.Texts.{byte_good}
use Rattle.fields.specs.Table.{fits_at}
use Rattle.basics.specs.Rules.{first_broken}
use Rattle.station.specs.Places.{fields_of}
use Rattle.station_groups.specs.Groups.{emission_fields}
use Rattle.coordination_judging.proofs.PartLaws.{byte_field, passing, stopping, passed_all}
use native.Mathlib.Omega.{arith}
use borrow.Author.Rules.{rules}
use Rattle.field_judging.proofs.emission_code.Goals as goal
use Rattle.field_judging.proofs.emission_code.Goals.{After-is_basis, Else-not-is_basis, Else-not-is_emission, Else-not-is_tenths, Else-not-is_tenths-2, Else-not-is_tenths-3}

-- the rules that hold are passed
past_1 : (c : Else-not-is_emission) → let rules = emission_fields (fields_of c.args.rec.now) in first_broken 14 rules ≡ first_broken 15 (drop 1 rules)
unfolding emission_fields fields_of
past_1 c = passing 14 _ c.is_emission.ensures c.if-not-is_emission.false-raw

past_2 : (c : Else-not-is_tenths) → (let rules = emission_fields (fields_of c.args.rec.now) in first_broken 14 rules ≡ first_broken 15 (drop 1 rules)) → let rules = emission_fields (fields_of c.args.rec.now) in first_broken 14 rules ≡ first_broken 16 (drop 2 rules)
unfolding emission_fields fields_of
past_2 c past_1 = past_1 ∙ passing 15 _ c.is_tenths.ensures c.if-not-is_tenths.false-raw

-- the byte of rule 16 is its field
told_16 : (c : After-is_basis) → let r = c.args.rec.now in c.is_basis.result ≡ byte_good (fits_at 16) (take 1 (drop 90 r))
told_16 c = c.is_basis.ensures ∙ sym (byte_field (fits_at 16) c.args.rec.now 90 (omega (arith, c.requires)))

past_3 : (c : Else-not-is_basis) → (let rules = emission_fields (fields_of c.args.rec.now) in first_broken 14 rules ≡ first_broken 16 (drop 2 rules)) → (let r = c.args.rec.now in c.is_basis.result ≡ byte_good (fits_at 16) (take 1 (drop 90 r))) → let rules = emission_fields (fields_of c.args.rec.now) in first_broken 14 rules ≡ first_broken 17 (drop 3 rules)
unfolding emission_fields fields_of
past_3 c past_2 told_16 = past_2 ∙ passing 16 _ (told_16) c.if-not-is_basis.false-raw

past_4 : (c : Else-not-is_tenths-2) → (let rules = emission_fields (fields_of c.args.rec.now) in first_broken 14 rules ≡ first_broken 17 (drop 3 rules)) → let rules = emission_fields (fields_of c.args.rec.now) in first_broken 14 rules ≡ first_broken 18 (drop 4 rules)
unfolding emission_fields fields_of
past_4 c past_3 = past_3 ∙ passing 17 _ c.is_tenths-2.ensures c.if-not-is_tenths-2.false-raw

past_5 : (c : Else-not-is_tenths-3) → (let rules = emission_fields (fields_of c.args.rec.now) in first_broken 14 rules ≡ first_broken 18 (drop 4 rules)) → let rules = emission_fields (fields_of c.args.rec.now) in first_broken 14 rules ≡ first_broken 19 (drop 5 rules)
unfolding emission_fields fields_of
past_5 c past_4 = past_4 ∙ passing 18 _ c.is_tenths-3.ensures c.if-not-is_tenths-3.false-raw

pub returns-then-not-is_emission : goal.returns-then-not-is_emission
unfolding emission_fields fields_of
returns-then-not-is_emission c = stopping 14 _ c.is_emission.ensures c.if-not-is_emission.true-raw

pub returns-then-not-is_tenths : goal.returns-then-not-is_tenths
unfolding emission_fields fields_of
returns-then-not-is_tenths c = stopping 15 _ c.is_tenths.ensures c.if-not-is_tenths.true-raw ∙ sym (past_1 (goal.at.returns-then-not-is_tenths c).Else-not-is_emission)

pub returns-then-not-is_basis : goal.returns-then-not-is_basis
unfolding emission_fields fields_of
returns-then-not-is_basis c = stopping 16 _ (told_16 (goal.at.returns-then-not-is_basis c).After-is_basis) c.if-not-is_basis.true-raw ∙ sym (past_2 (goal.at.returns-then-not-is_basis c).Else-not-is_tenths (past_1 (goal.at.returns-then-not-is_basis c).Else-not-is_emission))

pub returns-then-not-is_tenths-2 : goal.returns-then-not-is_tenths-2
unfolding emission_fields fields_of
returns-then-not-is_tenths-2 c = stopping 17 _ c.is_tenths-2.ensures c.if-not-is_tenths-2.true-raw ∙ sym (past_3 (goal.at.returns-then-not-is_tenths-2 c).Else-not-is_basis (past_2 (goal.at.returns-then-not-is_tenths-2 c).Else-not-is_tenths (past_1 (goal.at.returns-then-not-is_tenths-2 c).Else-not-is_emission)) (told_16 (goal.at.returns-then-not-is_tenths-2 c).After-is_basis))

pub returns-then-not-is_tenths-3 : goal.returns-then-not-is_tenths-3
unfolding emission_fields fields_of
returns-then-not-is_tenths-3 c = stopping 18 _ c.is_tenths-3.ensures c.if-not-is_tenths-3.true-raw ∙ sym (past_4 (goal.at.returns-then-not-is_tenths-3 c).Else-not-is_tenths-2 (past_3 (goal.at.returns-then-not-is_tenths-3 c).Else-not-is_basis (past_2 (goal.at.returns-then-not-is_tenths-3 c).Else-not-is_tenths (past_1 (goal.at.returns-then-not-is_tenths-3 c).Else-not-is_emission)) (told_16 (goal.at.returns-then-not-is_tenths-3 c).After-is_basis)))

pub returns : goal.returns
unfolding emission_fields fields_of
returns c = passed_all 19 ∙ sym (past_5 c (past_4 (goal.at.returns c).Else-not-is_tenths-2 (past_3 (goal.at.returns c).Else-not-is_basis (past_2 (goal.at.returns c).Else-not-is_tenths (past_1 (goal.at.returns c).Else-not-is_emission)) (told_16 (goal.at.returns c).After-is_basis))))
