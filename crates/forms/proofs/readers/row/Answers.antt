-- `forms::readers::row` meets its contract.
use Rattle.forms.proofs.ReaderLaws.{row_whole, row_short}
use Rattle.forms.proofs.readers.row.Goals as goal

pub returns-then-rest-lt-ROW_WIDTH : goal.returns-then-rest-lt-ROW_WIDTH
returns-then-rest-lt-ROW_WIDTH c = row_short _ _ c.behind-rest.ensures c.if-rest-lt-ROW_WIDTH.true

pub returns : goal.returns
returns c = row_whole _ _ c.behind-rest.ensures
