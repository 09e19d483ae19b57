-- `explain::print_explanation` is safe and ends: what it writes is within what the explanation was written into.
use mathlib.Core.Path.{sym}
use lib.Seq.{length-take-le}
use Rattle.printing.proofs.WriteLaws.{within}
use Rattle.explain.proofs.print_explanation.Goals as goal

pub slice_bounds-lines-end : goal.slice_bounds-lines-end
slice_bounds-lines-end c = within _ _ c.write_explanation-end.ensures

pub slice_bounds-write_all-end : goal.slice_bounds-write_all-end
slice_bounds-write_all-end c = sym (length-take-le c.write_explanation-end.result c.write_explanation-end.new.out (within _ _ c.write_explanation-end.ensures))
