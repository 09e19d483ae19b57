-- `remarks::is_installation` meets its contract: each return rewrites with the tests on its way.
use Rattle.remarks.specs.Remarks.{installation_good}
use Rattle.columns.proofs.AnswerLaws.{told, passed, failed}
use Rattle.remarks.proofs.is_installation.Goals as goal

pub returns-then-is_blank : goal.returns-then-is_blank
unfolding installation_good
returns-then-is_blank c = rw (told c.is_blank.ensures c.if-is_blank.true)

pub returns-then-not-is_size : goal.returns-then-not-is_size
unfolding installation_good
returns-then-not-is_size c =
    rw (told c.is_blank.ensures c.if-is_blank.false, failed c.is_size.ensures c.if-not-is_size.true-raw)

pub returns : goal.returns
unfolding installation_good
returns c =
    rw (told c.is_blank.ensures c.if-is_blank.false, passed c.is_size.ensures c.if-not-is_size.false-raw) c.is_surrounding.ensures
