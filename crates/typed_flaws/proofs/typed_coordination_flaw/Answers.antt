-- `typed_flaws::typed_coordination_flaw` meets its contract, code by code.
use Prim.Native.Nat.{◌-◌, ◌≤◌}
use mathlib.Core.Path.{refl, sym, ap, ◌∙◌}
use mathlib.Core.Bool.{cond}
use mathlib.Core.List.{[]}
use native.Mathlib.Omega.{arith}
use lib.ListN.{get_or, get_or-eq_default}
use Rattle.fields.specs.Table.{fits_at}
use Rattle.flaws.specs.Flaws.{ranged}
use Rattle.flaws.specs.declared.Flaw.TheVariants as flaw
use Rattle.flaw_parts.proofs.CodeLaws.{past, coded, byte_alone}
use Rattle.typed_flaws.specs.Groups.{coordination_flaws}
use Rattle.typed_flaws.proofs.typed_coordination_flaw.Goals as goal

pub returns-in-24 : goal.returns-in-24
unfolding coordination_flaws
returns-in-24 c = coded (λ k. get_or (coordination_flaws c.args.s) (k - 24) flaw.Between) _ 24 _ c.in-24.is (c.range_flaw.ensures ∙ ap ranged c.fits_frequency.ensures)

pub returns-in-25 : goal.returns-in-25
unfolding coordination_flaws
returns-in-25 c = coded (λ k. get_or (coordination_flaws c.args.s) (k - 24) flaw.Between) _ 25 _ c.in-25.is (refl)

pub returns-in-26 : goal.returns-in-26
unfolding coordination_flaws
returns-in-26 c = coded (λ k. get_or (coordination_flaws c.args.s) (k - 24) flaw.Between) _ 26 _ c.in-26.is c.remarks_flaw.ensures

pub returns-in-27 : goal.returns-in-27
unfolding coordination_flaws
returns-in-27 c = coded (λ k. get_or (coordination_flaws c.args.s) (k - 24) flaw.Between) _ 27 _ c.in-27.is (c.byte_flaw.ensures ∙ ap (λ b. cond b flaw.None flaw.Byte) c.is_status.ensures ∙ byte_alone (fits_at 27) [] _)

pub returns-in-28 : goal.returns-in-28
unfolding coordination_flaws
returns-in-28 c = coded (λ k. get_or (coordination_flaws c.args.s) (k - 24) flaw.Between) _ 28 _ c.in-28.is (c.range_flaw-in-28.ensures ∙ ap ranged c.fits_day.ensures)

pub returns-in-29 : goal.returns-in-29
unfolding coordination_flaws
returns-in-29 c = coded (λ k. get_or (coordination_flaws c.args.s) (k - 24) flaw.Between) _ 29 _ c.in-29.is (c.range_flaw-in-29.ensures ∙ ap ranged c.fits_day-in-29.ensures)

pub returns-in-30 : goal.returns-in-30
unfolding coordination_flaws
returns-in-30 c = coded (λ k. get_or (coordination_flaws c.args.s) (k - 24) flaw.Between) _ 30 _ c.in-30.is c.reference_flaw.ensures

pub returns-in_default : goal.returns-in_default
unfolding coordination_flaws
returns-in_default c =
    let above : 31 ≤ c.args.code = past 30 _ (past 29 _ (past 28 _ (past 27 _ (past 26 _ (past 25 _ (past 24 _ c.requires c.in_default.in_default-own.rest.0.0.0.0.0.0.1) c.in_default.in_default-own.rest.0.0.0.0.0.1) c.in_default.in_default-own.rest.0.0.0.0.1) c.in_default.in_default-own.rest.0.0.0.1) c.in_default.in_default-own.rest.0.0.1) c.in_default.in_default-own.rest.0.1) c.in_default.in_default-own.rest.1 in
    let behind : 7 ≤ c.args.code - 24 = omega (arith, above) in
    sym (get_or-eq_default (coordination_flaws c.args.s) flaw.Between behind)
