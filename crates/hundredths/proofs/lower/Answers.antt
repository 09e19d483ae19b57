-- `hundredths::lower` meets its contract.
use borrow.Author.Tests.{lt-ltb, le-ltb}
use Rattle.hundredths.specs.Hundredths.{lower_of}
use Rattle.hundredths.proofs.lower.Goals as goal

pub returns-then-v-u : goal.returns-then-v-u
unfolding lower_of
returns-then-v-u c = simp (c.in-Some.is, lt-ltb _ _ c.if-v-u.true)

pub returns-in-None : goal.returns-in-None
unfolding lower_of
returns-in-None c = simp c.in-None.is

pub returns-else-v-u : goal.returns-else-v-u
unfolding lower_of
returns-else-v-u c = simp (c.in-Some.is, le-ltb _ _ c.if-v-u.false)
