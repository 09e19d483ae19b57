-- `frequencies::unit_letter` meets its contract, unit by unit.
use mathlib.Core.Path.{sym, ap}
use Rattle.frequencies.specs.Frequencies.{unit_letter}
use Rattle.frequencies.proofs.unit_letter.Goals as goal

pub returns-in-Kilo : goal.returns-in-Kilo
unfolding unit_letter
returns-in-Kilo c = sym (ap unit_letter c.in-Kilo.is)

pub returns-in-Mega : goal.returns-in-Mega
unfolding unit_letter
returns-in-Mega c = sym (ap unit_letter c.in-Mega.is)

pub returns-in-Giga : goal.returns-in-Giga
unfolding unit_letter
returns-in-Giga c = sym (ap unit_letter c.in-Giga.is)
