-- `walking::is_kept` meets its contract.
use borrow.Author.Tests.{le-leb, lt-leb, not-true, not-false}
use Rattle.walking.proofs.is_kept.Goals as goal

pub returns-then-code-low : goal.returns-then-code-low
returns-then-code-low c = rw (lt-leb _ _ c.if-code-low.true)

pub returns-then-high-code : goal.returns-then-high-code
returns-then-high-code c = rw (le-leb _ _ c.if-code-low.false, lt-leb _ _ c.if-high-code.true)

pub returns-then-not-stands : goal.returns-then-not-stands
returns-then-not-stands c = rw (le-leb _ _ c.if-code-low.false, le-leb _ _ c.if-high-code.false, ← c.stands.ensures, not-true c.stands.result c.if-not-stands.true-raw)

pub returns : goal.returns
returns c = rw (le-leb _ _ c.if-code-low.false, le-leb _ _ c.if-high-code.false, ← c.stands.ensures, ← c.stands-2.ensures, not-false c.stands.result c.if-not-stands.false-raw)
