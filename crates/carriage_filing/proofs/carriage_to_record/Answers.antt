-- `carriage_filing::carriage_to_record` meets its contract: it is refused for the first reason, or the record is made.
use mathlib.Core.Path.{sym, ◌∙◌}
use Rattle.basics.proofs.RefusalLaws.{passed_on, error_done, none_told}
use Rattle.carriage_lines.proofs.GivenLaws.{given_record, given_short, given_digits}
use Rattle.carriage_lines.proofs.CallLaws.{not_the_length, given_refused, made_filed}
use Rattle.carriage_filing.proofs.carriage_to_record.Goals as goal

pub returns-then-out-ne219 : goal.returns-then-out-ne219
returns-then-out-ne219 c =
    not_the_length c.args.line.now c.args.defaults.now c.args.out.now c.if-out-ne219.true

pub returns-in_err-check_given : goal.returns-in_err-check_given
returns-in_err-check_given c =
    given_refused c.args.line.now c.args.defaults.now c.args.out.now c.if-out-ne219.false _ (passed_on c.from_residual.ensures.1 c.in_err-check_given.ensures) (error_done c.from_residual.result c.from_residual.ensures.1 c.in_err-check_given.ensures)

pub file_made-requires : goal.file_made-requires
file_made-requires c =
    let t = c.args.line.now in
    let d = c.args.defaults.now in
    let y = none_told c.in_ok-check_given.ensures in
    (c.if-out-ne219.false, given_record t d y, given_short t d y, given_digits t d y)

pub returns : goal.returns
returns c =
    let y = none_told c.in_ok-check_given.ensures in
    made_filed c.args.line.now c.args.defaults.now c.args.out.now c.if-out-ne219.false y _ _ c.file_made.ensures.0 c.file_made.ensures.1
