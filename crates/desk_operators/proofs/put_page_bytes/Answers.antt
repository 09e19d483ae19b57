-- `desk_operators::put_page_bytes` meets its contract: the file's length is asked first, then the room.
use Rattle.std.specs.Prelude.{Err}
use mathlib.Core.Path.{◌≡◌, refl, sym, ap, ◌∙◌}
use mathlib.Core.Bool.{true}
use mathlib.Core.List.{List}
use Prim.Native.Nat.{◌≤◌}
use lib.ListN.{length}
use Rattle.basics.specs.Outcomes.{refusal, first_refusal, Outcome}
use Rattle.basics.specs.declared.Refusal.TheVariants as why
use Rattle.basics.proofs.RefusalLaws.{done, went_on, stopped}
use Rattle.files.specs.Files.{stations}
use Rattle.files.specs.Calls.{file_tests}
use Rattle.files.proofs.LengthLaws.{length_passed, whole_records}
use Rattle.printing.proofs.WriteLaws.{written}
use Rattle.operator_counts.specs.Counts.{operators, heard_at, tally_of, tabled}
use Rattle.operator_pages.specs.declared.OperatorRow.{OperatorRow}
use Rattle.operator_pages.specs.Pages.{rows_below, tally_in}
use Rattle.operator_pages.specs.Calls.{page_answer}
use Rattle.operator_pages.proofs.PageLaws.{refused_answer, length_ends, no_room, room-there, given}
use Rattle.desk_operators.specs.Promises.{room_in, spelled_rows, bytes_after}
use Rattle.desk_operators.proofs.RowLaws.{refused_bytes}
use native.Mathlib.Omega.{arith}
use Rattle.desk_operators.proofs.put_page_bytes.Goals as goal
use Rattle.desk_operators.proofs.put_page_bytes.Goals.{After-tallies-counts, Else-is_err}

-- behind the test the file's length is right,
right : (c : Else-is_err) → done (first_refusal (file_tests c.args.file.now)) ≡ true
right c = went_on c.check_file-outcome.ensures c.is_err.ensures.value c.if-is_err.false

-- its stations are counted,
counted : (c : After-tallies-counts) → let file = c.args.file.now in c.tallies-counts.result ≡ tabled (tally_of (heard_at file) (stations file)) operators
counted c = c.tallies-counts.ensures ∙ rw c.stations_in.ensures

pub returns-then-is_err : goal.returns-then-is_err
returns-then-is_err c =
    let file = c.args.file.now in
    let room = room_in c.args.out.now in
    let wrong = stopped c.check_file-outcome.ensures c.is_err.ensures.value c.if-is_err.true in
    let ends = length_ends file room wrong in
    (rw c.check_file-outcome.ensures (refused_answer file room _ ends wrong), refused_bytes file c.args.out.now room (ap (λ (o : Outcome). done o) (sym ends) ∙ wrong))

pub tallies-counts-requires : goal.tallies-counts-requires
tallies-counts-requires c =
    let file = c.args.file.now in
    let whole = whole_records file (length_passed file (right (goal.at.tallies-counts-requires c).Else-is_err)) in
    rw c.stations_in.ensures (whole.0, omega (arith, whole.1))

pub returns-then-out-found : goal.returns-then-out-found
unfolding refusal
returns-then-out-found c =
    let file = c.args.file.now in
    let out = c.args.out.now in
    let ends = no_room file (room_in out) (right (goal.at.returns-then-out-found c).Else-is_err) c.tallies-counts.result (counted (goal.at.returns-then-out-found c).After-tallies-counts) (omega (arith, c.if-out-found.true, c.operators_in-found.ensures)) in
    (refused_answer file (room_in out) (Err why.TooFewRows) ends refl, refused_bytes file out (room_in out) (ap (λ (o : Outcome). done o) (sym ends)))

pub put_rows-requires : goal.put_rows-requires
put_rows-requires c = omega (arith, c.if-out-found.false, c.operators_in-found.ensures)

pub returns : goal.returns
unfolding page_answer bytes_after
returns c =
    let file = c.args.file.now in
    let room = room_in c.args.out.now in
    let fits : length (rows_below (tally_in c.tallies-counts.result) operators) ≤ room = omega (arith, c.if-out-found.false, c.operators_in-found.ensures) in
    let ends = room-there file room (right (goal.at.returns c).Else-is_err) c.tallies-counts.result (counted (goal.at.returns c).After-tallies-counts) fits in
    let rows = given file room (right (goal.at.returns c).Else-is_err) c.tallies-counts.result (counted (goal.at.returns c).After-tallies-counts) fits in
    (rw (c.operators_in-found.ensures, ends, rows), (written (ap (λ (r : List OperatorRow). spelled_rows r) (sym rows)) c.put_rows.ensures).stands)
