-- `list_out::print_list` is safe and ends: what it writes is within what the list was written into.
use mathlib.Core.Path.{sym}
use lib.Seq.{length-take-le}
use Rattle.printing.proofs.WriteLaws.{within}
use Rattle.list_out.proofs.print_list.Goals as goal

pub slice_bounds-lines-end : goal.slice_bounds-lines-end
slice_bounds-lines-end c = within _ _ c.write_list-end.ensures

pub slice_bounds-write_all-end : goal.slice_bounds-write_all-end
slice_bounds-write_all-end c = sym (length-take-le c.write_list-end.result c.write_list-end.new.out (within _ _ c.write_list-end.ensures))
