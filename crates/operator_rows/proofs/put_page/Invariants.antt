-- `operator_rows::put_page` meets its contract: so many rows of the page stand in front of those that were lent.
use Rattle.std.proofs.Common.{◌≡◌}
use Rattle.operator_pages.specs.Calls.{page_row}
use Rattle.operator_rows.proofs.PutLaws.{put_to}
use Rattle.operator_rows.proofs.put_page.Given as goal

abbrev pub invariant-loop-i : goal.invariant-loop-i
invariant-loop-i l = l.rows ≡ put_to (page_row l.page) l.i l.initial.rows
