-- `typed_flaws::explain_typed` meets its contract.
use mathlib.Core.Path.{ap, ◌∙◌}
use Rattle.typed_flaws.specs.Calls.{flaw_typed, typed_flaw}
use Rattle.typed_flaws.proofs.explain_typed.Goals as goal

pub returns : goal.returns
unfolding typed_flaw
returns c = (c.typed_code-code.ensures, c.flaw_typed-flaw.ensures ∙ ap (flaw_typed c.args.s) c.typed_code-code.ensures)
