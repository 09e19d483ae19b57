-- `trailers::lowest_of` meets its contract: without a bad row there is no lowest.
use mathlib.Core.Path.{sym, ◌∙◌}
use Rattle.forms.specs.OwnForm.{bad}
use Rattle.trailers.proofs.TrailerLaws.{count-first}
use Rattle.trailers.proofs.lowest_of.Goals as goal

pub returns-then-found-eq0 : goal.returns-then-found-eq0
returns-then-found-eq0 c =
    sym (count-first (bad c.args.sheet.now) c.args.n (sym c.requires.2 ∙ c.if-found-eq0.true))
