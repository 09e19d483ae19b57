-- `symbols::is_polarisation` meets its contract: each return rewrites with the choices that were tried before it.
use mathlib.Core.Bool.{or-false}
use Rattle.columns.proofs.AnswerLaws.{told}
use Rattle.columns.proofs.ChoiceLaws.{one_of_four, one_of-none}
use Rattle.symbols.proofs.is_polarisation.Goals as goal

pub returns-then-is_any : goal.returns-then-is_any
returns-then-is_any c = rw (one_of_four, told c.is_any.ensures c.if-is_any.true)

pub returns : goal.returns
returns c =
    rw (one_of_four, told c.is_any.ensures c.if-is_any.false, one_of_four, one_of-none, or-false) c.is_any-2.ensures
