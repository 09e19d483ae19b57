-- `typed_flaws::flaw_typed` meets its contract, group by group.
use Prim.Native.Nat.{◌≤◌, ◌<◌}
use mathlib.Core.Path.{refl, ◌∙◌}
use mathlib.Core.List.{[], ◌++◌}
use native.Mathlib.Omega.{arith}
use Rattle.flaw_parts.proofs.CodeLaws.{past, coded, of_group, of_last}
use Rattle.typed_channel_flaws.specs.Groups.{channel_flaws}
use Rattle.typed_antenna_flaws.specs.Groups.{antenna_flaws}
use Rattle.typed_flaws.specs.Groups.{site_flaws, emission_flaws, coordination_flaws}
use Rattle.typed_flaws.specs.Calls.{flaw_typed}
use Rattle.typed_flaws.proofs.flaw_typed.Goals as goal

pub returns-then-code-eq0 : goal.returns-then-code-eq0
unfolding flaw_typed
returns-then-code-eq0 c = coded (flaw_typed c.args.s) _ 0 _ c.if-code-eq0.true refl

pub returns-then-code-le7 : goal.returns-then-code-le7
unfolding flaw_typed channel_flaws site_flaws emission_flaws antenna_flaws coordination_flaws
returns-then-code-le7 c =
    let s = c.args.s in
    let k = c.args.code in
    let ch = channel_flaws s.channel in
    let si = site_flaws s.site in
    let em = emission_flaws s.emission in
    let an = antenna_flaws s.antenna in
    let co = coordination_flaws s.coordination in
    let low : 0 < k = past 0 k (omega arith) c.if-code-eq0.false in
    let high : k ≤ 7 = c.if-code-le7.true in
    c.typed_channel_flaw.ensures ∙ of_group [] ch (si ++ (em ++ (an ++ co))) k low high

pub returns-then-code-le13 : goal.returns-then-code-le13
unfolding flaw_typed channel_flaws site_flaws emission_flaws antenna_flaws coordination_flaws
returns-then-code-le13 c =
    let s = c.args.s in
    let k = c.args.code in
    let ch = channel_flaws s.channel in
    let si = site_flaws s.site in
    let em = emission_flaws s.emission in
    let an = antenna_flaws s.antenna in
    let co = coordination_flaws s.coordination in
    let low : 7 < k = omega (arith, c.if-code-le7.false) in
    let high : k ≤ 13 = c.if-code-le13.true in
    c.typed_site_flaw.ensures ∙ of_group ch si (em ++ (an ++ co)) k low high

pub returns-then-code-le18 : goal.returns-then-code-le18
unfolding flaw_typed channel_flaws site_flaws emission_flaws antenna_flaws coordination_flaws
returns-then-code-le18 c =
    let s = c.args.s in
    let k = c.args.code in
    let ch = channel_flaws s.channel in
    let si = site_flaws s.site in
    let em = emission_flaws s.emission in
    let an = antenna_flaws s.antenna in
    let co = coordination_flaws s.coordination in
    let low : 13 < k = omega (arith, c.if-code-le13.false) in
    let high : k ≤ 18 = c.if-code-le18.true in
    c.typed_emission_flaw.ensures ∙ of_group (ch ++ si) em (an ++ co) k low high

pub returns-then-code-le23 : goal.returns-then-code-le23
unfolding flaw_typed channel_flaws site_flaws emission_flaws antenna_flaws coordination_flaws
returns-then-code-le23 c =
    let s = c.args.s in
    let k = c.args.code in
    let ch = channel_flaws s.channel in
    let si = site_flaws s.site in
    let em = emission_flaws s.emission in
    let an = antenna_flaws s.antenna in
    let co = coordination_flaws s.coordination in
    let low : 18 < k = omega (arith, c.if-code-le18.false) in
    let high : k ≤ 23 = c.if-code-le23.true in
    c.typed_antenna_flaw.ensures ∙ of_group (ch ++ (si ++ em)) an co k low high

pub returns : goal.returns
unfolding flaw_typed channel_flaws site_flaws emission_flaws antenna_flaws coordination_flaws
returns c =
    let s = c.args.s in
    let k = c.args.code in
    let ch = channel_flaws s.channel in
    let si = site_flaws s.site in
    let em = emission_flaws s.emission in
    let an = antenna_flaws s.antenna in
    let co = coordination_flaws s.coordination in
    let low : 23 < k = omega (arith, c.if-code-le23.false) in
    c.typed_coordination_flaw.ensures ∙ of_last (ch ++ (si ++ (em ++ an))) co k low
