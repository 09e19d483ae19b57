-- `gathering::lines::nothing` meets its contract.
use mathlib.Core.Path.{refl}
use Rattle.columns.specs.Texts.{how_many}
use Rattle.gathering.proofs.lines.nothing.Goals as goal

pub returns : goal.returns
unfolding how_many
returns c = refl
