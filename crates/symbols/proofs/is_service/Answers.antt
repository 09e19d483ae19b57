-- `symbols::is_service` meets its contract: each return rewrites with the choices that were tried before it.
use Rattle.columns.proofs.AnswerLaws.{told}
use Rattle.columns.proofs.ChoiceLaws.{one_of_four, one_of_one}
use Rattle.symbols.proofs.is_service.Goals as goal

pub returns-then-is_any : goal.returns-then-is_any
returns-then-is_any c = rw (one_of_four, told c.is_any.ensures c.if-is_any.true)

pub returns : goal.returns
returns c =
    rw (one_of_four, told c.is_any.ensures c.if-is_any.false, one_of_one) c.equal.ensures
