-- `typed_flaws::typed_site_flaw` meets its contract, code by code.
use Prim.Native.Nat.{◌-◌, ◌≤◌}
use mathlib.Core.Path.{sym, ap, ◌∙◌}
use native.Mathlib.Omega.{arith}
use lib.ListN.{get_or, get_or-eq_default}
use Rattle.flaws.specs.Flaws.{ranged}
use Rattle.flaws.specs.declared.Flaw.TheVariants as flaw
use Rattle.flaw_parts.proofs.CodeLaws.{past, coded}
use Rattle.typed_flaws.specs.Groups.{site_flaws}
use Rattle.typed_flaws.proofs.typed_site_flaw.Goals as goal

pub returns-in-8 : goal.returns-in-8
unfolding site_flaws
returns-in-8 c = coded (λ k. get_or (site_flaws c.args.s) (k - 8) flaw.Between) _ 8 _ c.in-8.is (c.range_flaw.ensures ∙ ap ranged c.fits_day.ensures)

pub returns-in-9 : goal.returns-in-9
unfolding site_flaws
returns-in-9 c = coded (λ k. get_or (site_flaws c.args.s) (k - 8) flaw.Between) _ 9 _ c.in-9.is c.name_flaw.ensures

pub returns-in-10 : goal.returns-in-10
unfolding site_flaws
returns-in-10 c = coded (λ k. get_or (site_flaws c.args.s) (k - 8) flaw.Between) _ 10 _ c.in-10.is c.country_flaw.ensures

pub returns-in-11 : goal.returns-in-11
unfolding site_flaws
returns-in-11 c = coded (λ k. get_or (site_flaws c.args.s) (k - 8) flaw.Between) _ 11 _ c.in-11.is (c.range_flaw-in-11.ensures ∙ ap ranged c.fits_position.ensures)

pub returns-in-12 : goal.returns-in-12
unfolding site_flaws
returns-in-12 c = coded (λ k. get_or (site_flaws c.args.s) (k - 8) flaw.Between) _ 12 _ c.in-12.is (c.range_flaw-in-12.ensures ∙ ap ranged c.fits_radius.ensures)

pub returns-in-13 : goal.returns-in-13
unfolding site_flaws
returns-in-13 c = coded (λ k. get_or (site_flaws c.args.s) (k - 8) flaw.Between) _ 13 _ c.in-13.is (c.range_flaw-in-13.ensures ∙ ap ranged c.fits_height.ensures)

pub returns-in_default : goal.returns-in_default
unfolding site_flaws
returns-in_default c =
    let above : 14 ≤ c.args.code = past 13 _ (past 12 _ (past 11 _ (past 10 _ (past 9 _ (past 8 _ c.requires c.in_default.in_default-own.rest.0.0.0.0.0.1) c.in_default.in_default-own.rest.0.0.0.0.1) c.in_default.in_default-own.rest.0.0.0.1) c.in_default.in_default-own.rest.0.0.1) c.in_default.in_default-own.rest.0.1) c.in_default.in_default-own.rest.1 in
    let behind : 6 ≤ c.args.code - 8 = omega (arith, above) in
    sym (get_or-eq_default (site_flaws c.args.s) flaw.Between behind)
