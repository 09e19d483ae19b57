-- `desk_locating::desk_line_marks` meets its contract.
use Rattle.desk_locating.proofs.FaultLaws.{marks_told}
use Rattle.desk_locating.proofs.desk_line_marks.Goals as goal

pub returns-then-has_marks : goal.returns-then-has_marks
returns-then-has_marks c =
    marks_told c.args.line.now _ _ _ c.line_marks-marks.ensures (rw (← c.has_marks.ensures, c.if-has_marks.true)) c.as_number.ensures

pub returns : goal.returns
returns c =
    marks_told c.args.line.now _ _ _ c.line_marks-marks.ensures (rw (← c.has_marks.ensures, c.if-has_marks.false)) c.as_number.ensures
