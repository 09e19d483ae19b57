-- `frequency_values::reaches_through` meets its contract: three bytes are asked.
use mathlib.Core.Path.{sym, ◌∙◌}
use mathlib.Core.Bool.{false≢true, true≢false}
use borrow.Author.Tests.{eq-eqb, not-true}
use borrow.Author.Rules.{rules}
use Rattle.frequency_values.proofs.reaches_through.Goals as goal

pub returns-then-p-ne46 : goal.returns-then-p-ne46
returns-then-p-ne46 c e = absurd (false≢true e)

pub returns-then-p-eq32 : goal.returns-then-p-eq32
returns-then-p-eq32 c e = absurd (false≢true e)

pub returns : goal.returns
returns c e = (search rules, search rules, λ q. true≢false (sym (eq-eqb _ 32 q) ∙ not-true _ e))
