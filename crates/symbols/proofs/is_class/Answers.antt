-- `symbols::is_class` meets its contract: each return rewrites with the choices that were tried before it.
use Rattle.columns.proofs.AnswerLaws.{told}
use Rattle.columns.proofs.ChoiceLaws.{one_of-two, one_of_one}
use Rattle.symbols.proofs.is_class.Goals as goal

pub returns-then-is_either : goal.returns-then-is_either
returns-then-is_either c = rw (one_of-two, told c.is_either.ensures c.if-is_either.true)

pub returns : goal.returns
returns c =
    rw (one_of-two, told c.is_either.ensures c.if-is_either.false, one_of_one) c.equal.ensures
