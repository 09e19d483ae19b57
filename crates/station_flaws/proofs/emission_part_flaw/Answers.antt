-- `station_flaws::emission_part_flaw` meets its contract, code by code.
use mathlib.Core.Path.{ap, ◌∙◌}
use native.Mathlib.Omega.{arith}
use Rattle.fields.specs.Table.{fits_at}
use Rattle.station.specs.Places.{fields_of}
use Rattle.coordination_flaws.specs.Flaws.{record_flaw}
use mathlib.Core.Bool.{cond}
use mathlib.Core.List.{[]}
use Rattle.flaws.specs.declared.Flaw.TheVariants as flaw
use Rattle.flaw_parts.proofs.CodeLaws.{past, coded, byte_there}
use Rattle.station_flaws.proofs.emission_part_flaw.Goals as goal

pub antenna_part_flaw-requires : goal.antenna_part_flaw-requires
antenna_part_flaw-requires c = (c.requires.0, past 18 _ (past 17 _ (past 16 _ (past 15 _ (past 14 _ c.requires.1 c.in_default.in_default-own.rest.0.0.0.0.1) c.in_default.in_default-own.rest.0.0.0.1) c.in_default.in_default-own.rest.0.0.1) c.in_default.in_default-own.rest.0.1) c.in_default.in_default-own.rest.1)

pub returns-in-14 : goal.returns-in-14
unfolding record_flaw fields_of
returns-in-14 c = coded (record_flaw c.args.rec.now) _ 14 _ c.in-14.is c.emission_flaw.ensures

pub returns-in-15 : goal.returns-in-15
unfolding record_flaw fields_of
returns-in-15 c = coded (record_flaw c.args.rec.now) _ 15 _ c.in-15.is c.tenths_flaw.ensures

pub returns-in-16 : goal.returns-in-16
unfolding record_flaw fields_of
returns-in-16 c = coded (record_flaw c.args.rec.now) _ 16 _ c.in-16.is (c.byte_flaw.ensures ∙ ap (λ b. cond b flaw.None flaw.Byte) c.is_basis.ensures ∙ byte_there (fits_at 16) [] c.args.rec.now 90 (omega (arith, c.requires.0)))

pub returns-in-17 : goal.returns-in-17
unfolding record_flaw fields_of
returns-in-17 c = coded (record_flaw c.args.rec.now) _ 17 _ c.in-17.is c.tenths_flaw-in-17.ensures

pub returns-in-18 : goal.returns-in-18
unfolding record_flaw fields_of
returns-in-18 c = coded (record_flaw c.args.rec.now) _ 18 _ c.in-18.is c.tenths_flaw-in-18.ensures
