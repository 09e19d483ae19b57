-- `vehicles::digits::is_last_right` meets its contract: the sum over all twelve digits is that of eleven and the last.
use Rattle.vehicles.proofs.DigitLaws.{right_sum}
use Rattle.vehicles.proofs.digits.is_last_right.Goals as goal

pub returns : goal.returns
returns c =
    rw (right_sum c.args.number.now c.requires, c.digit_sum.ensures)
