-- `typed_antenna_flaws::typed_antenna_flaw` meets its contract, code by code.
use Prim.Native.Nat.{◌-◌, ◌≤◌}
use mathlib.Core.Path.{sym, ap, ◌∙◌}
use native.Mathlib.Omega.{arith}
use lib.ListN.{get_or, get_or-eq_default}
use Rattle.flaws.specs.Flaws.{ranged}
use Rattle.flaws.specs.declared.Flaw.TheVariants as flaw
use Rattle.flaw_parts.proofs.CodeLaws.{past, coded}
use Rattle.typed_antenna_flaws.specs.Groups.{antenna_flaws}
use Rattle.typed_antenna_flaws.proofs.typed_antenna_flaw.Goals as goal

pub returns-in-19 : goal.returns-in-19
unfolding antenna_flaws
returns-in-19 c = coded (λ k. get_or (antenna_flaws c.args.s) (k - 19) flaw.Between) _ 19 _ c.in-19.is c.polarisation_flaw.ensures

pub returns-in-20 : goal.returns-in-20
unfolding antenna_flaws
returns-in-20 c = coded (λ k. get_or (antenna_flaws c.args.s) (k - 19) flaw.Between) _ 20 _ c.in-20.is (c.range_flaw.ensures ∙ ap ranged c.fits_tenths.ensures)

pub returns-in-21 : goal.returns-in-21
unfolding antenna_flaws
returns-in-21 c = coded (λ k. get_or (antenna_flaws c.args.s) (k - 19) flaw.Between) _ 21 _ c.in-21.is (c.range_flaw-in-21.ensures ∙ ap ranged c.fits_ground.ensures)

pub returns-in-22 : goal.returns-in-22
unfolding antenna_flaws
returns-in-22 c = coded (λ k. get_or (antenna_flaws c.args.s) (k - 19) flaw.Between) _ 22 _ c.in-22.is c.antenna_flaw.ensures

pub returns-in-23 : goal.returns-in-23
unfolding antenna_flaws
returns-in-23 c = coded (λ k. get_or (antenna_flaws c.args.s) (k - 19) flaw.Between) _ 23 _ c.in-23.is c.antenna_flaw-in-23.ensures

pub returns-in_default : goal.returns-in_default
unfolding antenna_flaws
returns-in_default c =
    let above : 24 ≤ c.args.code = past 23 _ (past 22 _ (past 21 _ (past 20 _ (past 19 _ c.requires c.in_default.in_default-own.rest.0.0.0.0.1) c.in_default.in_default-own.rest.0.0.0.1) c.in_default.in_default-own.rest.0.0.1) c.in_default.in_default-own.rest.0.1) c.in_default.in_default-own.rest.1 in
    let behind : 5 ≤ c.args.code - 19 = omega (arith, above) in
    sym (get_or-eq_default (antenna_flaws c.args.s) flaw.Between behind)
