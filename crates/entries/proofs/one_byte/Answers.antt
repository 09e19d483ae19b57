-- `entries::one_byte` meets its contract.
use borrow.Author.Tests.{not-true, not-false, ne_eqb}
use Rattle.entries.proofs.one_byte.Goals as goal

pub returns-then-not-admitted : goal.returns-then-not-admitted
returns-then-not-admitted c = rw (not-true c.args.admitted c.if-not-admitted.true-raw)

pub returns-then-n-eq1 : goal.returns-then-n-eq1
returns-then-n-eq1 c = rw (not-false c.args.admitted c.if-not-admitted.false-raw, c.if-n-eq1.true)

pub returns : goal.returns
returns c = rw (not-false c.args.admitted c.if-not-admitted.false-raw, ne_eqb _ 1 c.if-n-eq1.false)
