-- `respelling::respell_station` meets its contract: an accepted record is copied and respelled.
use mathlib.Core.Path.{refl, sym, ◌∙◌}
use Rattle.basics.proofs.RefusalLaws.{passed_on, error_done, none_told}
use Rattle.station.specs.Values.{empty_station}
use Rattle.station.specs.Spelling.{spell_station}
use Rattle.station.specs.Codes.{value_of, station_code, typed_code}
use Rattle.station.specs.Calls.{read_outcome}
use Rattle.station.proofs.RoundTrip.{read_fits}
use Rattle.respelling.specs.Respelling.{respell_outcome, respelled_station}
use Rattle.respelling.proofs.RespellLaws.{lengths_passed, lengths_refused, reading_refused, all_fit, spelling_put}
use Rattle.respelling.proofs.respell_station.Goals as goal

pub returns-in_err-check_lengths : goal.returns-in_err-check_lengths
unfolding respell_outcome respelled_station
returns-in_err-check_lengths c =
    let r = c.args.rec.now in
    lengths_refused (station_code r) (value_of r) empty_station typed_code spell_station r c.args.out.now (read_fits r) (passed_on c.from_residual.ensures.1 c.in_err-check_lengths.ensures) (error_done c.from_residual.result c.from_residual.ensures.1 c.in_err-check_lengths.ensures)

pub returns-in_err-check_station : goal.returns-in_err-check_station
unfolding respell_outcome respelled_station read_outcome
returns-in_err-check_station c =
    let r = c.args.rec.now in
    let none = lengths_passed r c.args.out.now (none_told c.in_ok-check_lengths.ensures) in
    reading_refused (station_code r) (value_of r) empty_station typed_code spell_station r c.args.out.now (read_fits r) none (passed_on c.from_residual-in_err-check_station.ensures.1 c.in_err-check_station.ensures) (error_done c.from_residual-in_err-check_station.result c.from_residual-in_err-check_station.ensures.1 c.in_err-check_station.ensures)

pub put_respelled-requires : goal.put_respelled-requires
unfolding read_outcome
put_respelled-requires c =
    let r = c.args.rec.now in
    let none = lengths_passed r c.args.out.now (none_told c.in_ok-check_lengths.ensures) in
    all_fit (station_code r) (value_of r) empty_station typed_code spell_station r c.args.out.now (read_fits r) none c.in_ok-check_station.ensures (none_told refl)

pub returns : goal.returns
unfolding respell_outcome respelled_station read_outcome
returns c =
    let r = c.args.rec.now in
    let none = lengths_passed r c.args.out.now (none_told c.in_ok-check_lengths.ensures) in
    spelling_put (station_code r) (value_of r) empty_station typed_code spell_station r c.args.out.now (read_fits r) none c.in_ok-check_station.ensures (none_told refl) c.put_respelled.ensures
