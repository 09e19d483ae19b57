-- `distances::put_ground` meets its contract: it is the writer of whole numbers.
use mathlib.Core.Path.{◌∙◌}
use Rattle.distances.specs.Distances.{spell_ground}
use Rattle.numerals.proofs.Signs.{in_bits}
use Rattle.distances.proofs.put_ground.Goals as goal

pub returns : goal.returns
unfolding spell_ground
returns c =
    c.put_whole.ensures ∙ rw (c.requires, c.magnitude.ensures, in_bits c.args.v.0 c.struct_told-1.given.0.1)
