-- `desk_sheets::sheets::told_finding` meets its contract: a number for each finding.
use mathlib.Core.Path.{refl}
use Rattle.desk_sheets.specs.Promises.{finding_number, offset_with}
use Rattle.desk_sheets.proofs.sheets.told_finding.Goals as goal

pub returns-in-Refused : goal.returns-in-Refused
unfolding finding_number offset_with
returns-in-Refused c = rw c.in-Refused.is (refl, refl)

pub returns-in-Right : goal.returns-in-Right
unfolding finding_number offset_with
returns-in-Right c = rw c.in-Right.is (refl, refl)

pub returns-in-WrongAt : goal.returns-in-WrongAt
unfolding finding_number offset_with
returns-in-WrongAt c = rw c.in-WrongAt.is (refl, refl)
