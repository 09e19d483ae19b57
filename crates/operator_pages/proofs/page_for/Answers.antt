-- `operator_pages::page_for` meets its contract: the file's length is asked first, then the room.
use Rattle.basics.specs.Outcomes.{Outcome}
use mathlib.Core.Path.{ap, ◌∙◌}
use mathlib.Core.List.{[]}
use Rattle.basics.proofs.RefusalLaws.{went_on, stopped}
use Rattle.files.proofs.LengthLaws.{length_passed, whole_records}
use Rattle.operator_pages.specs.Calls.{paged}
use Rattle.operator_pages.proofs.PageLaws.{length_refused, packed_refused, packed_given}
use native.Mathlib.Omega.{arith}
use Rattle.operator_pages.proofs.page_for.Goals as goal

pub returns-then-is_err : goal.returns-then-is_err
returns-then-is_err c =
    length_refused c.args.file.now c.args.room _ (stopped c.check_file-outcome.ensures c.is_err.ensures.value c.if-is_err.true)
    (c.no_rows.ensures ∙ ap (λ (o : Outcome). paged o []) c.check_file-outcome.ensures)

pub tallies-requires : goal.tallies-requires
tallies-requires c =
    let right = went_on c.check_file-outcome.ensures c.is_err.ensures.value c.if-is_err.false in
    let whole = whole_records c.args.file.now (length_passed c.args.file.now right) in
    rw c.stations_in.ensures (whole.0, omega (arith, whole.1))

pub returns-then-room-answer : goal.returns-then-room-answer
returns-then-room-answer c =
    let right = went_on c.check_file-outcome.ensures c.is_err.ensures.value c.if-is_err.false in
    packed_refused c.args.file.now c.args.room right c.tallies.result (c.tallies.ensures ∙ rw c.stations_in.ensures) c.packed-page.result c.packed-page.ensures _ c.if-room-answer.true c.no_rows-then-room-answer.ensures

pub returns : goal.returns
returns c =
    let right = went_on c.check_file-outcome.ensures c.is_err.ensures.value c.if-is_err.false in
    packed_given c.args.file.now c.args.room right c.tallies.result (c.tallies.ensures ∙ rw c.stations_in.ensures) c.packed-page.result c.packed-page.ensures c.if-room-answer.false
