-- `hundredths::higher` meets its contract.
use borrow.Author.Tests.{lt-ltb, le-ltb}
use Rattle.hundredths.specs.Hundredths.{higher_of}
use Rattle.hundredths.proofs.higher.Goals as goal

pub returns-then-u-v : goal.returns-then-u-v
unfolding higher_of
returns-then-u-v c = simp (c.in-Some.is, lt-ltb _ _ c.if-u-v.true)

pub returns-in-None : goal.returns-in-None
unfolding higher_of
returns-in-None c = simp c.in-None.is

pub returns-else-u-v : goal.returns-else-u-v
unfolding higher_of
returns-else-u-v c = simp (c.in-Some.is, le-ltb _ _ c.if-u-v.false)
