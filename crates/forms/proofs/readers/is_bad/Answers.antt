-- `forms::readers::is_bad` meets its contract.
use Rattle.forms.specs.Forms.{bad_at}
use Rattle.forms.proofs.readers.is_bad.Goals as goal

pub returns : goal.returns
unfolding bad_at
returns c = rw (c.is_zero.ensures, c.row.ensures)
