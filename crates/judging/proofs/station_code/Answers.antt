-- `judging::station_code` meets its contract: the rules between fields are asked where the thirty hold.
use mathlib.Core.Path.{◌≡◌, sym, ◌∙◌}
use mathlib.Core.List.{◌++◌}
use Rattle.basics.specs.Rules.{All, first_broken}
use Rattle.basics.proofs.RuleLaws.{all_hold, to_next, from_first}
use Rattle.station.specs.Places.{fields_of}
use Rattle.station_groups.specs.Groups.{channel_fields, site_fields, emission_fields, antenna_fields, coordination_fields}
use Rattle.station.specs.Groups.{first_between, last_between}
use Rattle.station.specs.Rules.{field_rules}
use Rattle.station.specs.Between.{between_rules}
use Rattle.station.specs.Codes.{value_of, station_code}
use borrow.Author.Rules.{rules}
use Rattle.judging.proofs.station_code.Goals as goal
use Rattle.judging.proofs.station_code.Goals.{Else-field-ne0, Else-first-ne0}

-- the thirty hold
hold : (c : Else-field-ne0) → All (field_rules (fields_of c.args.rec.now))
hold c = all_hold 0 (field_rules (fields_of c.args.rec.now)) (sym c.field_code-field.ensures ∙ c.if-field-ne0.false)

-- and then the rules between fields are asked
past_1 : (c : Else-field-ne0) → let r = c.args.rec.now in station_code r ≡ first_broken 31 (first_between (value_of r) ++ last_between (value_of r))
unfolding station_code between_rules first_between last_between field_rules channel_fields site_fields emission_fields antenna_fields coordination_fields
past_1 c =
    let r = c.args.rec.now in
    to_next 0 (field_rules (fields_of r)) (between_rules (value_of r)) c.field_code-field.ensures c.if-field-ne0.false

past_2 : (c : Else-first-ne0) → (let r = c.args.rec.now in station_code r ≡ first_broken 31 (first_between (value_of r) ++ last_between (value_of r))) → let r = c.args.rec.now in station_code r ≡ first_broken 35 (last_between (value_of r))
unfolding station_code between_rules first_between last_between field_rules channel_fields site_fields emission_fields antenna_fields coordination_fields
past_2 c past_1 =
    let r = c.args.rec.now in
    past_1 ∙ to_next 30 (first_between (value_of r)) (last_between (value_of r)) c.first_between-first.ensures c.if-first-ne0.false

pub returns-then-field-ne0 : goal.returns-then-field-ne0
unfolding station_code
returns-then-field-ne0 c =
    let r = c.args.rec.now in
    from_first 0 (field_rules (fields_of r)) (between_rules (value_of r)) c.field_code-field.ensures c.if-field-ne0.true

pub first_between-first-requires : goal.first_between-first-requires
first_between-first-requires c = (c.requires, (hold c))

pub returns-then-first-ne0 : goal.returns-then-first-ne0
returns-then-first-ne0 c =
    let v = value_of c.args.rec.now in
    from_first 30 (first_between v) (last_between v) c.first_between-first.ensures c.if-first-ne0.true ∙ sym (past_1 (goal.at.returns-then-first-ne0 c).Else-field-ne0)

pub last_between-requires : goal.last_between-requires
last_between-requires c = (c.requires, (hold (goal.at.last_between-requires c).Else-field-ne0))

pub returns : goal.returns
returns c = c.last_between.ensures ∙ sym (past_2 (goal.at.returns c).Else-first-ne0 (past_1 (goal.at.returns c).Else-field-ne0))
