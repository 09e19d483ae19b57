-- `coordination_judging::coordination_code` meets its contract: each test of the code is a rule of the group, asked where those before it hold.
use mathlib.Core.Path.{◌≡◌, sym, ◌∙◌}
use lib.ListN.{take, drop}
use Rattle.columns.specs.Texts.{byte_good}
use Rattle.fields.specs.Table.{fits_at}
use Rattle.basics.specs.Rules.{first_broken}
use Rattle.station.specs.Places.{fields_of}
use Rattle.station_groups.specs.Groups.{coordination_fields}
use Rattle.coordination_judging.proofs.PartLaws.{byte_field, passing, stopping, passed_all}
use native.Mathlib.Omega.{arith}
use borrow.Author.Rules.{rules}
use Rattle.coordination_judging.proofs.coordination_code.Goals as goal
use Rattle.coordination_judging.proofs.coordination_code.Goals.{After-is_status, Else-not-is_amount, Else-not-is_day, Else-not-is_day-2, Else-not-is_reference, Else-not-is_remarks, Else-not-is_status, Else-not-is_unit}

-- the rules that hold are passed
past_1 : (c : Else-not-is_amount) → let rules = coordination_fields (fields_of c.args.rec.now) in first_broken 24 rules ≡ first_broken 25 (drop 1 rules)
unfolding coordination_fields fields_of
past_1 c = passing 24 _ c.is_amount.ensures c.if-not-is_amount.false-raw

past_2 : (c : Else-not-is_unit) → (let rules = coordination_fields (fields_of c.args.rec.now) in first_broken 24 rules ≡ first_broken 25 (drop 1 rules)) → let rules = coordination_fields (fields_of c.args.rec.now) in first_broken 24 rules ≡ first_broken 26 (drop 2 rules)
unfolding coordination_fields fields_of
past_2 c past_1 = past_1 ∙ passing 25 _ c.is_unit.ensures c.if-not-is_unit.false-raw

past_3 : (c : Else-not-is_remarks) → (let rules = coordination_fields (fields_of c.args.rec.now) in first_broken 24 rules ≡ first_broken 26 (drop 2 rules)) → let rules = coordination_fields (fields_of c.args.rec.now) in first_broken 24 rules ≡ first_broken 27 (drop 3 rules)
unfolding coordination_fields fields_of
past_3 c past_2 = past_2 ∙ passing 26 _ c.is_remarks.ensures c.if-not-is_remarks.false-raw

-- the byte of rule 27 is its field
told_27 : (c : After-is_status) → let r = c.args.rec.now in c.is_status.result ≡ byte_good (fits_at 27) (take 1 (drop 187 r))
told_27 c = c.is_status.ensures ∙ sym (byte_field (fits_at 27) c.args.rec.now 187 (omega (arith, c.requires)))

past_4 : (c : Else-not-is_status) → (let rules = coordination_fields (fields_of c.args.rec.now) in first_broken 24 rules ≡ first_broken 27 (drop 3 rules)) → (let r = c.args.rec.now in c.is_status.result ≡ byte_good (fits_at 27) (take 1 (drop 187 r))) → let rules = coordination_fields (fields_of c.args.rec.now) in first_broken 24 rules ≡ first_broken 28 (drop 4 rules)
unfolding coordination_fields fields_of
past_4 c past_3 told_27 = past_3 ∙ passing 27 _ (told_27) c.if-not-is_status.false-raw

past_5 : (c : Else-not-is_day) → (let rules = coordination_fields (fields_of c.args.rec.now) in first_broken 24 rules ≡ first_broken 28 (drop 4 rules)) → let rules = coordination_fields (fields_of c.args.rec.now) in first_broken 24 rules ≡ first_broken 29 (drop 5 rules)
unfolding coordination_fields fields_of
past_5 c past_4 = past_4 ∙ passing 28 _ c.is_day.ensures c.if-not-is_day.false-raw

past_6 : (c : Else-not-is_day-2) → (let rules = coordination_fields (fields_of c.args.rec.now) in first_broken 24 rules ≡ first_broken 29 (drop 5 rules)) → let rules = coordination_fields (fields_of c.args.rec.now) in first_broken 24 rules ≡ first_broken 30 (drop 6 rules)
unfolding coordination_fields fields_of
past_6 c past_5 = past_5 ∙ passing 29 _ c.is_day-2.ensures c.if-not-is_day-2.false-raw

past_7 : (c : Else-not-is_reference) → (let rules = coordination_fields (fields_of c.args.rec.now) in first_broken 24 rules ≡ first_broken 30 (drop 6 rules)) → let rules = coordination_fields (fields_of c.args.rec.now) in first_broken 24 rules ≡ first_broken 31 (drop 7 rules)
unfolding coordination_fields fields_of
past_7 c past_6 = past_6 ∙ passing 30 _ c.is_reference.ensures c.if-not-is_reference.false-raw

pub returns-then-not-is_amount : goal.returns-then-not-is_amount
unfolding coordination_fields fields_of
returns-then-not-is_amount c = stopping 24 _ c.is_amount.ensures c.if-not-is_amount.true-raw

pub returns-then-not-is_unit : goal.returns-then-not-is_unit
unfolding coordination_fields fields_of
returns-then-not-is_unit c = stopping 25 _ c.is_unit.ensures c.if-not-is_unit.true-raw ∙ sym (past_1 (goal.at.returns-then-not-is_unit c).Else-not-is_amount)

pub returns-then-not-is_remarks : goal.returns-then-not-is_remarks
unfolding coordination_fields fields_of
returns-then-not-is_remarks c = stopping 26 _ c.is_remarks.ensures c.if-not-is_remarks.true-raw ∙ sym (past_2 (goal.at.returns-then-not-is_remarks c).Else-not-is_unit (past_1 (goal.at.returns-then-not-is_remarks c).Else-not-is_amount))

pub returns-then-not-is_status : goal.returns-then-not-is_status
unfolding coordination_fields fields_of
returns-then-not-is_status c = stopping 27 _ (told_27 (goal.at.returns-then-not-is_status c).After-is_status) c.if-not-is_status.true-raw ∙ sym (past_3 (goal.at.returns-then-not-is_status c).Else-not-is_remarks (past_2 (goal.at.returns-then-not-is_status c).Else-not-is_unit (past_1 (goal.at.returns-then-not-is_status c).Else-not-is_amount)))

pub returns-then-not-is_day : goal.returns-then-not-is_day
unfolding coordination_fields fields_of
returns-then-not-is_day c = stopping 28 _ c.is_day.ensures c.if-not-is_day.true-raw ∙ sym (past_4 (goal.at.returns-then-not-is_day c).Else-not-is_status (past_3 (goal.at.returns-then-not-is_day c).Else-not-is_remarks (past_2 (goal.at.returns-then-not-is_day c).Else-not-is_unit (past_1 (goal.at.returns-then-not-is_day c).Else-not-is_amount))) (told_27 (goal.at.returns-then-not-is_day c).After-is_status))

pub returns-then-not-is_day-2 : goal.returns-then-not-is_day-2
unfolding coordination_fields fields_of
returns-then-not-is_day-2 c = stopping 29 _ c.is_day-2.ensures c.if-not-is_day-2.true-raw ∙ sym (past_5 (goal.at.returns-then-not-is_day-2 c).Else-not-is_day (past_4 (goal.at.returns-then-not-is_day-2 c).Else-not-is_status (past_3 (goal.at.returns-then-not-is_day-2 c).Else-not-is_remarks (past_2 (goal.at.returns-then-not-is_day-2 c).Else-not-is_unit (past_1 (goal.at.returns-then-not-is_day-2 c).Else-not-is_amount))) (told_27 (goal.at.returns-then-not-is_day-2 c).After-is_status)))

pub returns-then-not-is_reference : goal.returns-then-not-is_reference
unfolding coordination_fields fields_of
returns-then-not-is_reference c = stopping 30 _ c.is_reference.ensures c.if-not-is_reference.true-raw ∙ sym (past_6 (goal.at.returns-then-not-is_reference c).Else-not-is_day-2 (past_5 (goal.at.returns-then-not-is_reference c).Else-not-is_day (past_4 (goal.at.returns-then-not-is_reference c).Else-not-is_status (past_3 (goal.at.returns-then-not-is_reference c).Else-not-is_remarks (past_2 (goal.at.returns-then-not-is_reference c).Else-not-is_unit (past_1 (goal.at.returns-then-not-is_reference c).Else-not-is_amount))) (told_27 (goal.at.returns-then-not-is_reference c).After-is_status))))

pub returns : goal.returns
unfolding coordination_fields fields_of
returns c = passed_all 31 ∙ sym (past_7 c (past_6 (goal.at.returns c).Else-not-is_day-2 (past_5 (goal.at.returns c).Else-not-is_day (past_4 (goal.at.returns c).Else-not-is_status (past_3 (goal.at.returns c).Else-not-is_remarks (past_2 (goal.at.returns c).Else-not-is_unit (past_1 (goal.at.returns c).Else-not-is_amount))) (told_27 (goal.at.returns c).After-is_status)))))
