-- `station_flaws::record_flaw` meets its contract, code by code.
use mathlib.Core.Path.{refl, ap, ◌∙◌}
use native.Mathlib.Omega.{arith}
use Rattle.fields.specs.Table.{fits_at}
use Rattle.station.specs.Places.{fields_of}
use Rattle.coordination_flaws.specs.Flaws.{record_flaw}
use mathlib.Core.Bool.{cond}
use mathlib.Core.List.{[]}
use Rattle.flaws.specs.declared.Flaw.TheVariants as flaw
use Rattle.flaw_parts.proofs.CodeLaws.{past, coded, byte_there}
use Rattle.station_flaws.proofs.record_flaw.Goals as goal

pub site_part_flaw-requires : goal.site_part_flaw-requires
site_part_flaw-requires c = (c.requires, past 7 _ (past 6 _ (past 5 _ (past 4 _ (past 3 _ (past 2 _ (past 1 _ (past 0 _ (omega arith) c.in_default.in_default-own.rest.0.0.0.0.0.0.0.1) c.in_default.in_default-own.rest.0.0.0.0.0.0.1) c.in_default.in_default-own.rest.0.0.0.0.0.1) c.in_default.in_default-own.rest.0.0.0.0.1) c.in_default.in_default-own.rest.0.0.0.1) c.in_default.in_default-own.rest.0.0.1) c.in_default.in_default-own.rest.0.1) c.in_default.in_default-own.rest.1)

pub returns-in-0 : goal.returns-in-0
unfolding record_flaw
returns-in-0 c = coded (record_flaw c.args.rec.now) _ 0 _ c.in-0.is refl

pub returns-in-1 : goal.returns-in-1
unfolding record_flaw fields_of
returns-in-1 c = coded (record_flaw c.args.rec.now) _ 1 _ c.in-1.is c.amount_flaw.ensures

pub returns-in-2 : goal.returns-in-2
unfolding record_flaw fields_of
returns-in-2 c = coded (record_flaw c.args.rec.now) _ 2 _ c.in-2.is c.unit_flaw.ensures

pub returns-in-3 : goal.returns-in-3
unfolding record_flaw fields_of
returns-in-3 c = coded (record_flaw c.args.rec.now) _ 3 _ c.in-3.is (c.byte_flaw.ensures ∙ ap (λ b. cond b flaw.None flaw.Byte) c.is_category.ensures ∙ byte_there (fits_at 3) [] c.args.rec.now 12 (omega (arith, c.requires)))

pub returns-in-4 : goal.returns-in-4
unfolding record_flaw fields_of
returns-in-4 c = coded (record_flaw c.args.rec.now) _ 4 _ c.in-4.is c.class_flaw.ensures

pub returns-in-5 : goal.returns-in-5
unfolding record_flaw fields_of
returns-in-5 c = coded (record_flaw c.args.rec.now) _ 5 _ c.in-5.is c.service_flaw.ensures

pub returns-in-6 : goal.returns-in-6
unfolding record_flaw fields_of
returns-in-6 c = coded (record_flaw c.args.rec.now) _ 6 _ c.in-6.is c.users_flaw.ensures

pub returns-in-7 : goal.returns-in-7
unfolding record_flaw fields_of
returns-in-7 c = coded (record_flaw c.args.rec.now) _ 7 _ c.in-7.is (c.byte_flaw-in-7.ensures ∙ ap (λ b. cond b flaw.None flaw.Byte) c.is_carrier.ensures ∙ byte_there (fits_at 7) [] c.args.rec.now 19 (omega (arith, c.requires)))
