-- `carriage_checks::is_mobile` meets its contract.
use mathlib.Core.Path.{◌≡◌, sym, ◌∙◌}
use mathlib.Core.Bool.{true, false}
use lib.Dec.{eqb}
use Rattle.basics.proofs.RefusalLaws.{went_on, stopped}
use Rattle.station.specs.Places.{fields_of}
use Rattle.station.specs.Codes.{station_code}
use Rattle.carriage_lines.specs.Lines.{is_mobile}
use Rattle.carriage_lines.proofs.GivenLaws.{done-code}
use Rattle.carriage_checks.proofs.is_mobile.Goals as goal

pub returns-then-is_err : goal.returns-then-is_err
unfolding is_mobile
returns-then-is_err c =
    let rec = c.args.rec.now in
    let code : eqb (station_code rec) 0 ≡ false = sym (done-code rec c.requires) ∙ stopped c.check_station.ensures c.is_err.ensures.value c.if-is_err.true in
    rw code

pub returns : goal.returns
unfolding is_mobile fields_of
returns c =
    let rec = c.args.rec.now in
    let code : eqb (station_code rec) 0 ≡ true = sym (done-code rec c.requires) ∙ went_on c.check_station.ensures c.is_err.ensures.value c.if-is_err.false in
    rw (code, ← c.equal.ensures)
