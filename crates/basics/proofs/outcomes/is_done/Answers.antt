-- `basics::outcomes::is_done` meets its contract: a call is done exactly where it answers Ok.
use mathlib.Core.Path.{◌∙◌}
use Rattle.basics.proofs.RefusalLaws.{ok-done}
use Rattle.basics.proofs.outcomes.is_done.Goals as goal

pub returns : goal.returns
returns c = c.is_ok.ensures.value ∙ ok-done c.args.outcome
