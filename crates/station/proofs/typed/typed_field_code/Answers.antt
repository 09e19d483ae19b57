-- `station::typed::typed_field_code` meets its contract: each group is asked where the groups before it hold.
use mathlib.Core.Path.{◌≡◌, sym, ◌∙◌}
use mathlib.Core.List.{◌++◌}
use Rattle.basics.specs.Rules.{first_broken}
use Rattle.basics.proofs.RuleLaws.{to_next, from_first}
use Rattle.station_groups.specs.Groups.{channel_rules, site_rules, emission_rules, antenna_rules, coordination_rules}
use Rattle.station.specs.Rules.{typed_rules}
use borrow.Author.Rules.{rules}
use Rattle.station.proofs.typed.typed_field_code.Goals as goal
use Rattle.station.proofs.typed.typed_field_code.Goals.{Else-antenna-ne0, Else-channel-ne0, Else-emission-ne0, Else-site-ne0}

-- a group whose rules hold is passed
past_1 : (c : Else-channel-ne0) → let s = c.args.s in first_broken 1 (typed_rules s) ≡ first_broken 8 (site_rules s.site ++ (emission_rules s.emission ++ (antenna_rules s.antenna ++ (coordination_rules s.coordination))))
unfolding channel_rules site_rules emission_rules antenna_rules coordination_rules typed_rules
past_1 c =
    let s = c.args.s in
    to_next 0 (channel_rules s.channel) (site_rules s.site ++ (emission_rules s.emission ++ (antenna_rules s.antenna ++ (coordination_rules s.coordination)))) c.typed_channel_code-channel.ensures c.if-channel-ne0.false

past_2 : (c : Else-site-ne0) → (let s = c.args.s in first_broken 1 (typed_rules s) ≡ first_broken 8 (site_rules s.site ++ (emission_rules s.emission ++ (antenna_rules s.antenna ++ (coordination_rules s.coordination))))) → let s = c.args.s in first_broken 1 (typed_rules s) ≡ first_broken 14 (emission_rules s.emission ++ (antenna_rules s.antenna ++ (coordination_rules s.coordination)))
unfolding channel_rules site_rules emission_rules antenna_rules coordination_rules typed_rules
past_2 c past_1 =
    let s = c.args.s in
    past_1 ∙ to_next 7 (site_rules s.site) (emission_rules s.emission ++ (antenna_rules s.antenna ++ (coordination_rules s.coordination))) c.typed_site_code-site.ensures c.if-site-ne0.false

past_3 : (c : Else-emission-ne0) → (let s = c.args.s in first_broken 1 (typed_rules s) ≡ first_broken 14 (emission_rules s.emission ++ (antenna_rules s.antenna ++ (coordination_rules s.coordination)))) → let s = c.args.s in first_broken 1 (typed_rules s) ≡ first_broken 19 (antenna_rules s.antenna ++ (coordination_rules s.coordination))
unfolding channel_rules site_rules emission_rules antenna_rules coordination_rules typed_rules
past_3 c past_2 =
    let s = c.args.s in
    past_2 ∙ to_next 13 (emission_rules s.emission) (antenna_rules s.antenna ++ (coordination_rules s.coordination)) c.typed_emission_code-emission.ensures c.if-emission-ne0.false

past_4 : (c : Else-antenna-ne0) → (let s = c.args.s in first_broken 1 (typed_rules s) ≡ first_broken 19 (antenna_rules s.antenna ++ (coordination_rules s.coordination))) → let s = c.args.s in first_broken 1 (typed_rules s) ≡ first_broken 24 (coordination_rules s.coordination)
unfolding channel_rules site_rules emission_rules antenna_rules coordination_rules typed_rules
past_4 c past_3 =
    let s = c.args.s in
    past_3 ∙ to_next 18 (antenna_rules s.antenna) (coordination_rules s.coordination) c.typed_antenna_code-antenna.ensures c.if-antenna-ne0.false

pub returns-then-channel-ne0 : goal.returns-then-channel-ne0
unfolding channel_rules site_rules emission_rules antenna_rules coordination_rules typed_rules
returns-then-channel-ne0 c =
    let s = c.args.s in
    from_first 0 (channel_rules s.channel) (site_rules s.site ++ (emission_rules s.emission ++ (antenna_rules s.antenna ++ (coordination_rules s.coordination)))) c.typed_channel_code-channel.ensures c.if-channel-ne0.true

pub returns-then-site-ne0 : goal.returns-then-site-ne0
unfolding channel_rules site_rules emission_rules antenna_rules coordination_rules typed_rules
returns-then-site-ne0 c =
    let s = c.args.s in
    from_first 7 (site_rules s.site) (emission_rules s.emission ++ (antenna_rules s.antenna ++ (coordination_rules s.coordination))) c.typed_site_code-site.ensures c.if-site-ne0.true ∙ sym (past_1 (goal.at.returns-then-site-ne0 c).Else-channel-ne0)

pub returns-then-emission-ne0 : goal.returns-then-emission-ne0
unfolding channel_rules site_rules emission_rules antenna_rules coordination_rules typed_rules
returns-then-emission-ne0 c =
    let s = c.args.s in
    from_first 13 (emission_rules s.emission) (antenna_rules s.antenna ++ (coordination_rules s.coordination)) c.typed_emission_code-emission.ensures c.if-emission-ne0.true ∙ sym (past_2 (goal.at.returns-then-emission-ne0 c).Else-site-ne0 (past_1 (goal.at.returns-then-emission-ne0 c).Else-channel-ne0))

pub returns-then-antenna-ne0 : goal.returns-then-antenna-ne0
unfolding channel_rules site_rules emission_rules antenna_rules coordination_rules typed_rules
returns-then-antenna-ne0 c =
    let s = c.args.s in
    from_first 18 (antenna_rules s.antenna) (coordination_rules s.coordination) c.typed_antenna_code-antenna.ensures c.if-antenna-ne0.true ∙ sym (past_3 (goal.at.returns-then-antenna-ne0 c).Else-emission-ne0 (past_2 (goal.at.returns-then-antenna-ne0 c).Else-site-ne0 (past_1 (goal.at.returns-then-antenna-ne0 c).Else-channel-ne0)))

pub returns : goal.returns
returns c = c.typed_coordination_code.ensures ∙ sym (past_4 (goal.at.returns c).Else-antenna-ne0 (past_3 (goal.at.returns c).Else-emission-ne0 (past_2 (goal.at.returns c).Else-site-ne0 (past_1 (goal.at.returns c).Else-channel-ne0))))
