-- `hundredths::step_of` meets its contract, unit by unit.
use Rattle.hundredths.specs.Hundredths.{step_of}
use Rattle.hundredths.proofs.step_of.Goals as goal

pub returns-in-Kilo : goal.returns-in-Kilo
unfolding step_of
returns-in-Kilo c = rw c.in-Kilo.is

pub returns-in-Mega : goal.returns-in-Mega
unfolding step_of
returns-in-Mega c = rw c.in-Mega.is

pub returns-in-Giga : goal.returns-in-Giga
unfolding step_of
returns-in-Giga c = rw c.in-Giga.is
