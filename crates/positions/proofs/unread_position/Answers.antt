-- `positions::unread_position` meets its contract.
use mathlib.Core.Path.{◌∙◌}
use borrow.Author.Tests.{not-true, not-false}
use Rattle.positions.proofs.Letters.{places-letters}
use Rattle.positions.proofs.unread_position.Goals as goal

pub returns-then-not-reads_arc : goal.returns-then-not-reads_arc
returns-then-not-reads_arc c = rw (← c.reads_arc.ensures, not-true c.reads_arc.result c.if-not-reads_arc.true-raw) (c.unread_of.ensures ∙ places-letters _)

pub returns-then-not-reads_arc-2 : goal.returns-then-not-reads_arc-2
returns-then-not-reads_arc-2 c =
    rw (← c.reads_arc.ensures, not-false c.reads_arc.result c.if-not-reads_arc.false-raw, ← c.reads_arc-2.ensures, not-true c.reads_arc-2.result c.if-not-reads_arc-2.true-raw) (c.unread_of-then-not-reads_arc-2.ensures ∙ places-letters _)

pub returns : goal.returns
returns c =
    rw (← c.reads_arc.ensures, not-false c.reads_arc.result c.if-not-reads_arc.false-raw, ← c.reads_arc-2.ensures, not-false c.reads_arc-2.result c.if-not-reads_arc-2.false-raw)
