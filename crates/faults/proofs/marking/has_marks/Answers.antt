-- `faults::marking::has_marks` meets its contract.
use borrow.Author.Tests.{eq-eqb, ne_eqb}
use Rattle.faults.specs.Faults.{has_marks}
use Rattle.faults.proofs.marking.has_marks.Goals as goal

pub returns-then-marks-ne29 : goal.returns-then-marks-ne29
unfolding has_marks
returns-then-marks-ne29 c = rw (ne_eqb _ _ c.if-marks-ne29.true)

pub returns-then-marks-ne1 : goal.returns-then-marks-ne1
unfolding has_marks
returns-then-marks-ne1 c = rw (eq-eqb _ _ c.if-marks-ne29.false, ne_eqb _ _ c.if-marks-ne1.true)

pub returns : goal.returns
unfolding has_marks
returns c = rw (eq-eqb _ _ c.if-marks-ne29.false, eq-eqb _ _ c.if-marks-ne1.false)
