-- `coordination_flaws::coordination_flaw` meets its contract, code by code; above them lie the codes between fields.
use mathlib.Core.Path.{ap, ◌∙◌}
use native.Mathlib.Omega.{arith}
use Rattle.fields.specs.Table.{fits_at, station_table}
use Rattle.flaw_parts.specs.Parts.{flaws_from}
use Rattle.station.specs.Places.{fields_of}
use Rattle.coordination_flaws.specs.Flaws.{record_flaw}
use mathlib.Core.Bool.{cond}
use mathlib.Core.List.{[]}
use Rattle.flaws.specs.declared.Flaw.TheVariants as flaw
use Rattle.flaw_parts.proofs.CodeLaws.{past, coded, beyond, byte_there}
use Rattle.coordination_flaws.proofs.coordination_flaw.Goals as goal

pub returns-in-24 : goal.returns-in-24
unfolding record_flaw fields_of
returns-in-24 c = coded (record_flaw c.args.rec.now) _ 24 _ c.in-24.is c.amount_flaw.ensures

pub returns-in-25 : goal.returns-in-25
unfolding record_flaw fields_of
returns-in-25 c = coded (record_flaw c.args.rec.now) _ 25 _ c.in-25.is c.unit_flaw.ensures

pub returns-in-26 : goal.returns-in-26
unfolding record_flaw fields_of
returns-in-26 c = coded (record_flaw c.args.rec.now) _ 26 _ c.in-26.is c.remarks_flaw.ensures

pub returns-in-27 : goal.returns-in-27
unfolding record_flaw fields_of
returns-in-27 c = coded (record_flaw c.args.rec.now) _ 27 _ c.in-27.is (c.byte_flaw.ensures ∙ ap (λ b. cond b flaw.None flaw.Byte) c.is_status.ensures ∙ byte_there (fits_at 27) [] c.args.rec.now 187 (omega (arith, c.requires.0)))

pub returns-in-28 : goal.returns-in-28
unfolding record_flaw fields_of
returns-in-28 c = coded (record_flaw c.args.rec.now) _ 28 _ c.in-28.is c.day_flaw.ensures

pub returns-in-29 : goal.returns-in-29
unfolding record_flaw fields_of
returns-in-29 c = coded (record_flaw c.args.rec.now) _ 29 _ c.in-29.is c.day_flaw-in-29.ensures

pub returns-in-30 : goal.returns-in-30
unfolding record_flaw fields_of
returns-in-30 c = coded (record_flaw c.args.rec.now) _ 30 _ c.in-30.is c.reference_flaw.ensures

pub returns-in_default : goal.returns-in_default
unfolding record_flaw
returns-in_default c = beyond (flaws_from 1 station_table (fields_of c.args.rec.now)) _ (past 30 _ (past 29 _ (past 28 _ (past 27 _ (past 26 _ (past 25 _ (past 24 _ c.requires.1 c.in_default.in_default-own.rest.0.0.0.0.0.0.1) c.in_default.in_default-own.rest.0.0.0.0.0.1) c.in_default.in_default-own.rest.0.0.0.0.1) c.in_default.in_default-own.rest.0.0.0.1) c.in_default.in_default-own.rest.0.0.1) c.in_default.in_default-own.rest.0.1) c.in_default.in_default-own.rest.1)
