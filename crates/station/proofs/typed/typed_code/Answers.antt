-- `station::typed::typed_code` meets its contract: the rules between fields are asked where the thirty hold.
use mathlib.Core.Path.{◌≡◌, sym, ◌∙◌}
use mathlib.Core.List.{◌++◌}
use Rattle.basics.specs.Rules.{first_broken}
use Rattle.basics.proofs.RuleLaws.{to_next, from_first}
use Rattle.station_groups.specs.Groups.{channel_rules, site_rules, emission_rules, antenna_rules, coordination_rules}
use Rattle.station.specs.Groups.{first_between, last_between}
use Rattle.station.specs.Rules.{typed_rules}
use Rattle.station.specs.Between.{between_rules}
use Rattle.station.specs.Codes.{typed_code}
use borrow.Author.Rules.{rules}
use Rattle.station.proofs.typed.typed_code.Goals as goal
use Rattle.station.proofs.typed.typed_code.Goals.{Else-field-ne0, Else-first-ne0}

-- where the thirty hold, the rules between fields are asked
past_1 : (c : Else-field-ne0) → let s = c.args.s in typed_code s ≡ first_broken 31 (first_between s ++ last_between s)
unfolding typed_code between_rules first_between last_between typed_rules channel_rules site_rules emission_rules antenna_rules coordination_rules
past_1 c =
    let s = c.args.s in
    to_next 0 (typed_rules s) (between_rules s) c.typed_field_code-field.ensures c.if-field-ne0.false

past_2 : (c : Else-first-ne0) → (let s = c.args.s in typed_code s ≡ first_broken 31 (first_between s ++ last_between s)) → let s = c.args.s in typed_code s ≡ first_broken 35 (last_between s)
unfolding typed_code between_rules first_between last_between typed_rules channel_rules site_rules emission_rules antenna_rules coordination_rules
past_2 c past_1 =
    let s = c.args.s in
    past_1 ∙ to_next 30 (first_between s) (last_between s) c.typed_first_between-first.ensures c.if-first-ne0.false

pub returns-then-field-ne0 : goal.returns-then-field-ne0
unfolding typed_code
returns-then-field-ne0 c =
    let s = c.args.s in
    from_first 0 (typed_rules s) (between_rules s) c.typed_field_code-field.ensures c.if-field-ne0.true

pub returns-then-first-ne0 : goal.returns-then-first-ne0
returns-then-first-ne0 c =
    let s = c.args.s in
    from_first 30 (first_between s) (last_between s) c.typed_first_between-first.ensures c.if-first-ne0.true ∙ sym (past_1 (goal.at.returns-then-first-ne0 c).Else-field-ne0)

pub returns : goal.returns
returns c = c.typed_last_between.ensures ∙ sym (past_2 (goal.at.returns c).Else-first-ne0 (past_1 (goal.at.returns c).Else-field-ne0))
