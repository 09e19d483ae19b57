-- `symbols::is_any` meets its contract: each return rewrites with the choices that were tried before it.
use Rattle.columns.proofs.AnswerLaws.{told}
use Rattle.symbols.proofs.is_any.Goals as goal

pub returns-then-is_either : goal.returns-then-is_either
returns-then-is_either c = rw (told c.is_either.ensures c.if-is_either.true)

pub returns : goal.returns
returns c = rw (told c.is_either.ensures c.if-is_either.false) c.is_either-2.ensures
