-- `lines_out::record_to_line` meets its contract: it is refused as reading is, or its station is listed.
use mathlib.Core.Path.{refl, sym, ◌∙◌}
use Rattle.basics.proofs.RefusalLaws.{ended_on, no_value, error_told, none_told}
use Rattle.station.specs.Codes.{value_of}
use Rattle.lists.proofs.RoundTrip.{spelled_own}
use Rattle.lists.proofs.RecordLaws.{record_refused, taken, value_fits, record_listed}
use borrow.Author.Rules.{rules}
use Rattle.lines_out.proofs.record_to_line.Goals as goal

pub returns-in_err-check_station : goal.returns-in_err-check_station
returns-in_err-check_station c =
    let told = record_refused c.args.rec.now c.args.buffer.now _ c.in_err-check_station.ensures (error_told refl) in (
      ended_on c.from_residual.result c.from_residual.ensures.1 told.0,
      no_value 0 c.from_residual.result c.from_residual.ensures.0 ∙ told.1,
      told.2,
    )

pub put_respelled-requires : goal.put_respelled-requires
put_respelled-requires c =
    let all = taken c.args.rec.now c.args.buffer.now _ c.in_ok-check_station.ensures (none_told refl) in
    (all.0, search rules, all.1)

pub write_spelled-requires : goal.write_spelled-requires
write_spelled-requires c =
    let fits = value_fits c.args.rec.now c.args.buffer.now _ c.in_ok-check_station.ensures (none_told refl) in
    let own = spelled_own (value_of c.args.rec.now) fits _ c.put_respelled.ensures in
    (search rules, own.0, own.1)

pub returns : goal.returns
returns c =
    let done = none_told refl in
    let own = spelled_own (value_of c.args.rec.now) (value_fits c.args.rec.now c.args.buffer.now _ c.in_ok-check_station.ensures done) _ c.put_respelled.ensures in
    record_listed c.args.rec.now c.args.buffer.now _ c.in_ok-check_station.ensures done _ own.2 _ _ _ c.write_spelled.ensures.0 c.write_spelled.ensures.1 c.write_spelled.ensures.2
