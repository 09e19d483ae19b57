-- `columns::sets::is_mail` meets its contract: the text set, or one of the two bytes more.
use mathlib.Core.Bool.{or-false}
use Rattle.columns.specs.Sets.{among, is_mail}
use Rattle.columns.proofs.sets.is_mail.Goals as goal

pub returns : goal.returns
unfolding is_mail among
returns c = rw (c.is_text.ensures, or-false)
