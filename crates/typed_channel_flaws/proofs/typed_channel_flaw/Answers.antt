-- `typed_channel_flaws::typed_channel_flaw` meets its contract, code by code.
use Prim.Native.Nat.{◌-◌, ◌≤◌}
use mathlib.Core.Path.{refl, sym, ap, ◌∙◌}
use mathlib.Core.Bool.{cond}
use mathlib.Core.List.{[]}
use native.Mathlib.Omega.{arith}
use lib.ListN.{get_or, get_or-eq_default}
use Rattle.fields.specs.Table.{fits_at}
use Rattle.flaws.specs.Flaws.{ranged}
use Rattle.flaws.specs.declared.Flaw.TheVariants as flaw
use Rattle.flaw_parts.proofs.CodeLaws.{past, coded, byte_alone}
use Rattle.typed_channel_flaws.specs.Groups.{channel_flaws}
use Rattle.typed_channel_flaws.proofs.typed_channel_flaw.Goals as goal

pub returns-in-1 : goal.returns-in-1
unfolding channel_flaws
returns-in-1 c = coded (λ k. get_or (channel_flaws c.args.s) (k - 1) flaw.Between) _ 1 _ c.in-1.is (c.range_flaw.ensures ∙ ap ranged c.fits_frequency.ensures)

pub returns-in-2 : goal.returns-in-2
unfolding channel_flaws
returns-in-2 c = coded (λ k. get_or (channel_flaws c.args.s) (k - 1) flaw.Between) _ 2 _ c.in-2.is (refl)

pub returns-in-3 : goal.returns-in-3
unfolding channel_flaws
returns-in-3 c = coded (λ k. get_or (channel_flaws c.args.s) (k - 1) flaw.Between) _ 3 _ c.in-3.is (c.byte_flaw.ensures ∙ ap (λ b. cond b flaw.None flaw.Byte) c.is_category.ensures ∙ byte_alone (fits_at 3) [] _)

pub returns-in-4 : goal.returns-in-4
unfolding channel_flaws
returns-in-4 c = coded (λ k. get_or (channel_flaws c.args.s) (k - 1) flaw.Between) _ 4 _ c.in-4.is c.class_flaw.ensures

pub returns-in-5 : goal.returns-in-5
unfolding channel_flaws
returns-in-5 c = coded (λ k. get_or (channel_flaws c.args.s) (k - 1) flaw.Between) _ 5 _ c.in-5.is c.service_flaw.ensures

pub returns-in-6 : goal.returns-in-6
unfolding channel_flaws
returns-in-6 c = coded (λ k. get_or (channel_flaws c.args.s) (k - 1) flaw.Between) _ 6 _ c.in-6.is c.users_flaw.ensures

pub returns-in-7 : goal.returns-in-7
unfolding channel_flaws
returns-in-7 c = coded (λ k. get_or (channel_flaws c.args.s) (k - 1) flaw.Between) _ 7 _ c.in-7.is (c.byte_flaw-in-7.ensures ∙ ap (λ b. cond b flaw.None flaw.Byte) c.is_carrier.ensures ∙ byte_alone (fits_at 7) [] _)

pub returns-in_default : goal.returns-in_default
unfolding channel_flaws
returns-in_default c =
    let above : 8 ≤ c.args.code = past 7 _ (past 6 _ (past 5 _ (past 4 _ (past 3 _ (past 2 _ (past 1 _ c.requires c.in_default.in_default-own.rest.0.0.0.0.0.0.1) c.in_default.in_default-own.rest.0.0.0.0.0.1) c.in_default.in_default-own.rest.0.0.0.0.1) c.in_default.in_default-own.rest.0.0.0.1) c.in_default.in_default-own.rest.0.0.1) c.in_default.in_default-own.rest.0.1) c.in_default.in_default-own.rest.1 in
    let behind : 7 ≤ c.args.code - 1 = omega (arith, above) in
    sym (get_or-eq_default (channel_flaws c.args.s) flaw.Between behind)
