-- `station_flaws::antenna_part_flaw` meets its contract, code by code.
use Rattle.station.specs.Places.{fields_of}
use Rattle.coordination_flaws.specs.Flaws.{record_flaw}
use Rattle.flaw_parts.proofs.CodeLaws.{past, coded}
use Rattle.station_flaws.proofs.antenna_part_flaw.Goals as goal

pub coordination_flaw-requires : goal.coordination_flaw-requires
coordination_flaw-requires c = (c.requires.0, past 23 _ (past 22 _ (past 21 _ (past 20 _ (past 19 _ c.requires.1 c.in_default.in_default-own.rest.0.0.0.0.1) c.in_default.in_default-own.rest.0.0.0.1) c.in_default.in_default-own.rest.0.0.1) c.in_default.in_default-own.rest.0.1) c.in_default.in_default-own.rest.1)

pub returns-in-19 : goal.returns-in-19
unfolding record_flaw fields_of
returns-in-19 c = coded (record_flaw c.args.rec.now) _ 19 _ c.in-19.is c.polarisation_flaw.ensures

pub returns-in-20 : goal.returns-in-20
unfolding record_flaw fields_of
returns-in-20 c = coded (record_flaw c.args.rec.now) _ 20 _ c.in-20.is c.tenths_flaw.ensures

pub returns-in-21 : goal.returns-in-21
unfolding record_flaw fields_of
returns-in-21 c = coded (record_flaw c.args.rec.now) _ 21 _ c.in-21.is c.whole_flaw.ensures

pub returns-in-22 : goal.returns-in-22
unfolding record_flaw fields_of
returns-in-22 c = coded (record_flaw c.args.rec.now) _ 22 _ c.in-22.is c.antenna_flaw.ensures

pub returns-in-23 : goal.returns-in-23
unfolding record_flaw fields_of
returns-in-23 c = coded (record_flaw c.args.rec.now) _ 23 _ c.in-23.is c.antenna_flaw-in-23.ensures
