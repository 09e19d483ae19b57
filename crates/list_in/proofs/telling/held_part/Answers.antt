-- `list_in::telling::held_part` is safe.
use mathlib.Core.Path.{sym}
use native.Mathlib.Omega.{arith}
use lib.Seq.{length-take-le}
use Rattle.list_in.proofs.telling.held_part.Goals as goal

pub slice_bounds-result-end : goal.slice_bounds-result-end
slice_bounds-result-end c =
    sym (length-take-le c.args.held c.args.line.now (omega (arith, c.if-held-line.true)))
