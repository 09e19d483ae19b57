-- `field_judging::channel_code` meets its contract: each test of the code is a rule of the group, asked where those before it hold.
use mathlib.Core.Path.{◌≡◌, sym, ◌∙◌}
use lib.ListN.{take, drop}
use Rattle.columns.specs.Texts.{byte_good}
use Rattle.fields.specs.Table.{fits_at}
use Rattle.basics.specs.Rules.{first_broken}
use Rattle.station.specs.Places.{fields_of}
use Rattle.station_groups.specs.Groups.{channel_fields}
use Rattle.coordination_judging.proofs.PartLaws.{byte_field, passing, stopping, passed_all}
use native.Mathlib.Omega.{arith}
use borrow.Author.Rules.{rules}
use Rattle.field_judging.proofs.channel_code.Goals as goal
use Rattle.field_judging.proofs.channel_code.Goals.{After-is_carrier, After-is_category, Else-not-is_amount, Else-not-is_carrier, Else-not-is_category, Else-not-is_class, Else-not-is_service, Else-not-is_unit, Else-not-is_users}

-- the rules that hold are passed
past_1 : (c : Else-not-is_amount) → let rules = channel_fields (fields_of c.args.rec.now) in first_broken 1 rules ≡ first_broken 2 (drop 1 rules)
unfolding channel_fields fields_of
past_1 c = passing 1 _ c.is_amount.ensures c.if-not-is_amount.false-raw

past_2 : (c : Else-not-is_unit) → (let rules = channel_fields (fields_of c.args.rec.now) in first_broken 1 rules ≡ first_broken 2 (drop 1 rules)) → let rules = channel_fields (fields_of c.args.rec.now) in first_broken 1 rules ≡ first_broken 3 (drop 2 rules)
unfolding channel_fields fields_of
past_2 c past_1 = past_1 ∙ passing 2 _ c.is_unit.ensures c.if-not-is_unit.false-raw

-- the byte of rule 3 is its field
told_3 : (c : After-is_category) → let r = c.args.rec.now in c.is_category.result ≡ byte_good (fits_at 3) (take 1 (drop 12 r))
told_3 c = c.is_category.ensures ∙ sym (byte_field (fits_at 3) c.args.rec.now 12 (omega (arith, c.requires)))

past_3 : (c : Else-not-is_category) → (let rules = channel_fields (fields_of c.args.rec.now) in first_broken 1 rules ≡ first_broken 3 (drop 2 rules)) → (let r = c.args.rec.now in c.is_category.result ≡ byte_good (fits_at 3) (take 1 (drop 12 r))) → let rules = channel_fields (fields_of c.args.rec.now) in first_broken 1 rules ≡ first_broken 4 (drop 3 rules)
unfolding channel_fields fields_of
past_3 c past_2 told_3 = past_2 ∙ passing 3 _ (told_3) c.if-not-is_category.false-raw

past_4 : (c : Else-not-is_class) → (let rules = channel_fields (fields_of c.args.rec.now) in first_broken 1 rules ≡ first_broken 4 (drop 3 rules)) → let rules = channel_fields (fields_of c.args.rec.now) in first_broken 1 rules ≡ first_broken 5 (drop 4 rules)
unfolding channel_fields fields_of
past_4 c past_3 = past_3 ∙ passing 4 _ c.is_class.ensures c.if-not-is_class.false-raw

past_5 : (c : Else-not-is_service) → (let rules = channel_fields (fields_of c.args.rec.now) in first_broken 1 rules ≡ first_broken 5 (drop 4 rules)) → let rules = channel_fields (fields_of c.args.rec.now) in first_broken 1 rules ≡ first_broken 6 (drop 5 rules)
unfolding channel_fields fields_of
past_5 c past_4 = past_4 ∙ passing 5 _ c.is_service.ensures c.if-not-is_service.false-raw

past_6 : (c : Else-not-is_users) → (let rules = channel_fields (fields_of c.args.rec.now) in first_broken 1 rules ≡ first_broken 6 (drop 5 rules)) → let rules = channel_fields (fields_of c.args.rec.now) in first_broken 1 rules ≡ first_broken 7 (drop 6 rules)
unfolding channel_fields fields_of
past_6 c past_5 = past_5 ∙ passing 6 _ c.is_users.ensures c.if-not-is_users.false-raw

-- the byte of rule 7 is its field
told_7 : (c : After-is_carrier) → let r = c.args.rec.now in c.is_carrier.result ≡ byte_good (fits_at 7) (take 1 (drop 19 r))
told_7 c = c.is_carrier.ensures ∙ sym (byte_field (fits_at 7) c.args.rec.now 19 (omega (arith, c.requires)))

past_7 : (c : Else-not-is_carrier) → (let rules = channel_fields (fields_of c.args.rec.now) in first_broken 1 rules ≡ first_broken 7 (drop 6 rules)) → (let r = c.args.rec.now in c.is_carrier.result ≡ byte_good (fits_at 7) (take 1 (drop 19 r))) → let rules = channel_fields (fields_of c.args.rec.now) in first_broken 1 rules ≡ first_broken 8 (drop 7 rules)
unfolding channel_fields fields_of
past_7 c past_6 told_7 = past_6 ∙ passing 7 _ (told_7) c.if-not-is_carrier.false-raw

pub returns-then-not-is_amount : goal.returns-then-not-is_amount
unfolding channel_fields fields_of
returns-then-not-is_amount c = stopping 1 _ c.is_amount.ensures c.if-not-is_amount.true-raw

pub returns-then-not-is_unit : goal.returns-then-not-is_unit
unfolding channel_fields fields_of
returns-then-not-is_unit c = stopping 2 _ c.is_unit.ensures c.if-not-is_unit.true-raw ∙ sym (past_1 (goal.at.returns-then-not-is_unit c).Else-not-is_amount)

pub returns-then-not-is_category : goal.returns-then-not-is_category
unfolding channel_fields fields_of
returns-then-not-is_category c = stopping 3 _ (told_3 (goal.at.returns-then-not-is_category c).After-is_category) c.if-not-is_category.true-raw ∙ sym (past_2 (goal.at.returns-then-not-is_category c).Else-not-is_unit (past_1 (goal.at.returns-then-not-is_category c).Else-not-is_amount))

pub returns-then-not-is_class : goal.returns-then-not-is_class
unfolding channel_fields fields_of
returns-then-not-is_class c = stopping 4 _ c.is_class.ensures c.if-not-is_class.true-raw ∙ sym (past_3 (goal.at.returns-then-not-is_class c).Else-not-is_category (past_2 (goal.at.returns-then-not-is_class c).Else-not-is_unit (past_1 (goal.at.returns-then-not-is_class c).Else-not-is_amount)) (told_3 (goal.at.returns-then-not-is_class c).After-is_category))

pub returns-then-not-is_service : goal.returns-then-not-is_service
unfolding channel_fields fields_of
returns-then-not-is_service c = stopping 5 _ c.is_service.ensures c.if-not-is_service.true-raw ∙ sym (past_4 (goal.at.returns-then-not-is_service c).Else-not-is_class (past_3 (goal.at.returns-then-not-is_service c).Else-not-is_category (past_2 (goal.at.returns-then-not-is_service c).Else-not-is_unit (past_1 (goal.at.returns-then-not-is_service c).Else-not-is_amount)) (told_3 (goal.at.returns-then-not-is_service c).After-is_category)))

pub returns-then-not-is_users : goal.returns-then-not-is_users
unfolding channel_fields fields_of
returns-then-not-is_users c = stopping 6 _ c.is_users.ensures c.if-not-is_users.true-raw ∙ sym (past_5 (goal.at.returns-then-not-is_users c).Else-not-is_service (past_4 (goal.at.returns-then-not-is_users c).Else-not-is_class (past_3 (goal.at.returns-then-not-is_users c).Else-not-is_category (past_2 (goal.at.returns-then-not-is_users c).Else-not-is_unit (past_1 (goal.at.returns-then-not-is_users c).Else-not-is_amount)) (told_3 (goal.at.returns-then-not-is_users c).After-is_category))))

pub returns-then-not-is_carrier : goal.returns-then-not-is_carrier
unfolding channel_fields fields_of
returns-then-not-is_carrier c = stopping 7 _ (told_7 (goal.at.returns-then-not-is_carrier c).After-is_carrier) c.if-not-is_carrier.true-raw ∙ sym (past_6 (goal.at.returns-then-not-is_carrier c).Else-not-is_users (past_5 (goal.at.returns-then-not-is_carrier c).Else-not-is_service (past_4 (goal.at.returns-then-not-is_carrier c).Else-not-is_class (past_3 (goal.at.returns-then-not-is_carrier c).Else-not-is_category (past_2 (goal.at.returns-then-not-is_carrier c).Else-not-is_unit (past_1 (goal.at.returns-then-not-is_carrier c).Else-not-is_amount)) (told_3 (goal.at.returns-then-not-is_carrier c).After-is_category)))))

pub returns : goal.returns
unfolding channel_fields fields_of
returns c = passed_all 8 ∙ sym (past_7 c (past_6 (goal.at.returns c).Else-not-is_users (past_5 (goal.at.returns c).Else-not-is_service (past_4 (goal.at.returns c).Else-not-is_class (past_3 (goal.at.returns c).Else-not-is_category (past_2 (goal.at.returns c).Else-not-is_unit (past_1 (goal.at.returns c).Else-not-is_amount)) (told_3 (goal.at.returns c).After-is_category))))) (told_7 (goal.at.returns c).After-is_carrier))
