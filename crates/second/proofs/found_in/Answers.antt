-- `second::found_in` meets its contract: the two tables that are walked are those of specs/.
use Rattle.second.proofs.TableLaws.{by_tables}
use Rattle.second.proofs.found_in.Goals as goal

pub returns : goal.returns
returns c =
    let r = c.args.rec.now in
    by_tables _ _ r _ c.walk.ensures c.entry_table-entries.ensures c.row_table-rows.ensures
