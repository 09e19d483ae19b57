-- `typed_flaws::typed_emission_flaw` meets its contract, code by code.
use Prim.Native.Nat.{◌-◌, ◌≤◌}
use mathlib.Core.Path.{sym, ap, ◌∙◌}
use mathlib.Core.Bool.{cond}
use mathlib.Core.List.{[]}
use native.Mathlib.Omega.{arith}
use lib.ListN.{get_or, get_or-eq_default}
use Rattle.fields.specs.Table.{fits_at}
use Rattle.flaws.specs.Flaws.{ranged}
use Rattle.flaws.specs.declared.Flaw.TheVariants as flaw
use Rattle.flaw_parts.proofs.CodeLaws.{past, coded, byte_alone}
use Rattle.typed_flaws.specs.Groups.{emission_flaws}
use Rattle.typed_flaws.proofs.typed_emission_flaw.Goals as goal

pub returns-in-14 : goal.returns-in-14
unfolding emission_flaws
returns-in-14 c = coded (λ k. get_or (emission_flaws c.args.s) (k - 14) flaw.Between) _ 14 _ c.in-14.is c.emission_flaw.ensures

pub returns-in-15 : goal.returns-in-15
unfolding emission_flaws
returns-in-15 c = coded (λ k. get_or (emission_flaws c.args.s) (k - 14) flaw.Between) _ 15 _ c.in-15.is (c.range_flaw.ensures ∙ ap ranged c.fits_tenths.ensures)

pub returns-in-16 : goal.returns-in-16
unfolding emission_flaws
returns-in-16 c = coded (λ k. get_or (emission_flaws c.args.s) (k - 14) flaw.Between) _ 16 _ c.in-16.is (c.byte_flaw.ensures ∙ ap (λ b. cond b flaw.None flaw.Byte) c.is_basis.ensures ∙ byte_alone (fits_at 16) [] _)

pub returns-in-17 : goal.returns-in-17
unfolding emission_flaws
returns-in-17 c = coded (λ k. get_or (emission_flaws c.args.s) (k - 14) flaw.Between) _ 17 _ c.in-17.is (c.range_flaw-in-17.ensures ∙ ap ranged c.fits_tenths-in-17.ensures)

pub returns-in-18 : goal.returns-in-18
unfolding emission_flaws
returns-in-18 c = coded (λ k. get_or (emission_flaws c.args.s) (k - 14) flaw.Between) _ 18 _ c.in-18.is (c.range_flaw-in-18.ensures ∙ ap ranged c.fits_tenths-in-18.ensures)

pub returns-in_default : goal.returns-in_default
unfolding emission_flaws
returns-in_default c =
    let above : 19 ≤ c.args.code = past 18 _ (past 17 _ (past 16 _ (past 15 _ (past 14 _ c.requires c.in_default.in_default-own.rest.0.0.0.0.1) c.in_default.in_default-own.rest.0.0.0.1) c.in_default.in_default-own.rest.0.0.1) c.in_default.in_default-own.rest.0.1) c.in_default.in_default-own.rest.1 in
    let behind : 5 ≤ c.args.code - 14 = omega (arith, above) in
    sym (get_or-eq_default (emission_flaws c.args.s) flaw.Between behind)
