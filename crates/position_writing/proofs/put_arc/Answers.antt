-- `position_writing::put_arc` meets its contract: each number is written in front of the next.
use mathlib.Core.Path.{◌∙◌}
use native.Mathlib.Omega.{arith}
use lib.ListN.{length-set}
use mir.Facts.{to_z-of_z}
use Rattle.position_writing.proofs.ArcWriting.{arc_written}
use Rattle.position_writing.proofs.put_arc.Goals as goal

pub slice_bounds-put_whole-end-3 : goal.slice_bounds-put_whole-end-3
slice_bounds-put_whole-end-3 c = rw length-set (omega arith)

pub shape_of-s : goal.shape_of-s
shape_of-s c = c.s-3-1.given.1 ∙ simp length-set (omega arith)

pub returns : goal.returns
returns c =
    arc_written c.args.s.now c.put_whole.new.s c.put_whole-2.new.s c.put_whole-3.new.s c.args.d c.letter_of.result c.magnitude-n.result c.requires c.put_whole.ensures c.put_whole-2.ensures c.put_whole-3.ensures
    ∙ rw (c.letter_of.ensures, c.magnitude-n.ensures, to_z-of_z c.ranges.v)
