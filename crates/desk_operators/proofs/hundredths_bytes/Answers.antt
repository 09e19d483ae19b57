-- `desk_operators::hundredths_bytes` meets its contract: spaces, or a number's bytes.
use mathlib.Core.Path.{refl}
use Rattle.desk_operators.specs.Rows.{spell_hundredths}
use Rattle.desk_operators.proofs.hundredths_bytes.Goals as goal

pub returns-in-None : goal.returns-in-None
unfolding spell_hundredths
returns-in-None c = rw c.in-None.is refl

pub returns-in-Some : goal.returns-in-Some
unfolding spell_hundredths
returns-in-Some c = rw c.in-Some.is c.frequency_bytes.ensures
