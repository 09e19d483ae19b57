-- `columns::texts::is_left_text` meets its contract: each return rewrites with the tests on its way.
use mathlib.Core.Bool.{or-true, or-false}
use borrow.Author.Tests.{eq-eqb, ne_eqb, not-true, not-false}
use Rattle.columns.specs.Texts.{text_good}
use Rattle.columns.proofs.texts.is_left_text.Goals as goal

pub returns-then-s-w : goal.returns-then-s-w
unfolding text_good
returns-then-s-w c = rw (ne_eqb _ _ c.if-s-w.true)

pub returns-then-not-all_in : goal.returns-then-not-all_in
unfolding text_good
returns-then-not-all_in c = rw (eq-eqb _ _ c.if-s-w.false, ← c.all_in.ensures, not-true c.all_in.result c.if-not-all_in.true-raw)

pub returns-then-byte-ne32 : goal.returns-then-byte-ne32
unfolding text_good
returns-then-byte-ne32 c = rw (eq-eqb _ _ c.if-s-w.false, ← c.all_in.ensures, not-false c.all_in.result c.if-not-all_in.false-raw, ← c.byte.ensures, ne_eqb _ _ c.if-byte-ne32.true, or-true)

pub returns : goal.returns
unfolding text_good
returns c = rw (eq-eqb _ _ c.if-s-w.false, ← c.all_in.ensures, not-false c.all_in.result c.if-not-all_in.false-raw, ← c.byte.ensures, eq-eqb _ _ c.if-byte-ne32.false, or-false, ← c.is_blank.ensures)
