-- `position_writing::put_position` meets its contract: the halves are all of the columns.
use mathlib.Core.Path.{◌∙◌}
use native.Mathlib.Omega.{arith}
use lib.Seq.{length-take-le}
use Rattle.positions.specs.Positions.{spell_arc, spell_position}
use Rattle.position_writing.proofs.ArcWriting.{two-parts}
use Rattle.numerals.proofs.Signs.{in_bits}
use Rattle.position_writing.proofs.put_position.Goals as goal

pub returns : goal.returns
unfolding spell_arc spell_position
returns c =
    two-parts c.args.s.now c.put_arc.new.s c.put_arc-2.new.s 8 7 c.requires (c.s-1.given.0 ∙ length-take-le 8 c.args.s.now (omega arith))
    ∙ rw (c.put_arc.ensures, c.put_arc-2.ensures, in_bits c.args.v.east c.struct_told-1.given.0.1, in_bits c.args.v.north c.struct_told-2-1.given.1.0.1)
