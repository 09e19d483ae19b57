-- `station_flaws::site_part_flaw` meets its contract, code by code.
use Rattle.station.specs.Places.{fields_of}
use Rattle.coordination_flaws.specs.Flaws.{record_flaw}
use Rattle.flaw_parts.proofs.CodeLaws.{past, coded}
use Rattle.station_flaws.proofs.site_part_flaw.Goals as goal

pub emission_part_flaw-requires : goal.emission_part_flaw-requires
emission_part_flaw-requires c = (c.requires.0, past 13 _ (past 12 _ (past 11 _ (past 10 _ (past 9 _ (past 8 _ c.requires.1 c.in_default.in_default-own.rest.0.0.0.0.0.1) c.in_default.in_default-own.rest.0.0.0.0.1) c.in_default.in_default-own.rest.0.0.0.1) c.in_default.in_default-own.rest.0.0.1) c.in_default.in_default-own.rest.0.1) c.in_default.in_default-own.rest.1)

pub returns-in-8 : goal.returns-in-8
unfolding record_flaw fields_of
returns-in-8 c = coded (record_flaw c.args.rec.now) _ 8 _ c.in-8.is c.day_flaw.ensures

pub returns-in-9 : goal.returns-in-9
unfolding record_flaw fields_of
returns-in-9 c = coded (record_flaw c.args.rec.now) _ 9 _ c.in-9.is c.name_flaw.ensures

pub returns-in-10 : goal.returns-in-10
unfolding record_flaw fields_of
returns-in-10 c = coded (record_flaw c.args.rec.now) _ 10 _ c.in-10.is c.country_flaw.ensures

pub returns-in-11 : goal.returns-in-11
unfolding record_flaw fields_of
returns-in-11 c = coded (record_flaw c.args.rec.now) _ 11 _ c.in-11.is c.position_flaw.ensures

pub returns-in-12 : goal.returns-in-12
unfolding record_flaw fields_of
returns-in-12 c = coded (record_flaw c.args.rec.now) _ 12 _ c.in-12.is c.whole_flaw.ensures

pub returns-in-13 : goal.returns-in-13
unfolding record_flaw fields_of
returns-in-13 c = coded (record_flaw c.args.rec.now) _ 13 _ c.in-13.is c.height_flaw.ensures
