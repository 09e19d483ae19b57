-- `respelling::respell_header` meets its contract: what is read from an accepted record breaks no rule and may be written.
use mathlib.Core.Path.{sym, ◌∙◌}
use Rattle.basics.proofs.RefusalLaws.{passed_on, error_done, none_told}
use Rattle.header.specs.Values.{empty_header}
use Rattle.header.specs.Spelling.{spell_header}
use Rattle.header.specs.Codes.{header_value, header_code, typed_header_code}
use Rattle.header.specs.Calls.{read_header_outcome, read_header}
use Rattle.header.proofs.RoundTrip.{read_fits}
use Rattle.respelling.specs.Respelling.{respell_header_outcome, respelled_header}
use Rattle.respelling.proofs.RespellLaws.{lengths_passed, lengths_refused, reading_refused, may_write, value_put}
use Rattle.respelling.proofs.respell_header.Goals as goal

pub returns-in_err-check_lengths : goal.returns-in_err-check_lengths
unfolding respell_header_outcome respelled_header
returns-in_err-check_lengths c =
    let r = c.args.rec.now in
    lengths_refused (header_code r) (header_value r) empty_header typed_header_code spell_header r c.args.out.now (read_fits r) (passed_on c.from_residual.ensures.1 c.in_err-check_lengths.ensures) (error_done c.from_residual.result c.from_residual.ensures.1 c.in_err-check_lengths.ensures)

pub returns-in_err-read : goal.returns-in_err-read
unfolding respell_header_outcome respelled_header read_header_outcome
returns-in_err-read c =
    let r = c.args.rec.now in
    let none = lengths_passed r c.args.out.now (none_told c.in_ok-check_lengths.ensures) in
    reading_refused (header_code r) (header_value r) empty_header typed_header_code spell_header r c.args.out.now (read_fits r) none (passed_on c.from_residual-in_err-read.ensures.1 (sym c.in_err-read.was ∙ c.read_header-read.ensures.0)) (error_done c.from_residual-in_err-read.result c.from_residual-in_err-read.ensures.1 (sym c.in_err-read.was))

pub put_header-requires : goal.put_header-requires
unfolding read_header_outcome read_header
put_header-requires c =
    let r = c.args.rec.now in
    let none = lengths_passed r c.args.out.now (none_told c.in_ok-check_lengths.ensures) in
    may_write (header_code r) (header_value r) empty_header typed_header_code spell_header r c.args.out.now (read_fits r) none c.read_header-read.ensures.0 (none_told (sym c.in_ok-read.was)) c.read_header-read.ensures.1

pub returns : goal.returns
unfolding respell_header_outcome respelled_header read_header_outcome read_header
returns c =
    let r = c.args.rec.now in
    let none = lengths_passed r c.args.out.now (none_told c.in_ok-check_lengths.ensures) in
    value_put (header_code r) (header_value r) empty_header typed_header_code spell_header r c.args.out.now (read_fits r) none c.read_header-read.ensures.0 (none_told (sym c.in_ok-read.was)) c.read_header-read.ensures.1 c.put_header.ensures
