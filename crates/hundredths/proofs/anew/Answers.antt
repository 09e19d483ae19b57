-- `hundredths::anew` meets its contract: either case is the one that it was.
use mathlib.Core.Path.{sym}
use Rattle.hundredths.proofs.anew.Goals as goal

pub returns-in-Some : goal.returns-in-Some
returns-in-Some c = sym c.in-Some.is
