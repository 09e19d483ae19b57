-- `list_in::take_piece` meets its contract: it goes on by a line each turn, and a line has at least one byte.
use Prim.Native.Nat.{◌-◌}
use native.Mathlib.Omega.{arith}
use Rattle.gathering.proofs.CutLaws.{next_end, piece_begins, piece_goes_on, piece_ends}
use borrow.Author.Rules.{rules}
use Rattle.list_in.proofs.take_piece.Goals as goal

pub loop-at-init : goal.loop-at-init
loop-at-init c =
    (omega arith, piece_begins c.args.line.now c.args.progress.gathered c.args.piece.now)

pub slice_bounds-take_part-end : goal.slice_bounds-take_part-end
slice_bounds-take_part-end c =
    (next_end c.args.piece.now c.loop-at.at _ c.loop-at-test.true c.line_end-end.ensures).2

pub overflow_add-at : goal.overflow_add-at
overflow_add-at c =
    let next = next_end c.args.piece.now c.loop-at.at _ c.loop-at-test.true c.line_end-end.ensures in
    let inside = next.1 in
    search rules

pub loop-at-smaller : goal.loop-at-smaller
loop-at-smaller c =
    let next = next_end c.args.piece.now c.loop-at.at _ c.loop-at-test.true c.line_end-end.ensures in
    omega (arith, next.0, next.1)

pub loop-at-preserved : goal.loop-at-preserved
loop-at-preserved c =
    let here = c.loop-at-test.true in
    ((next_end c.args.piece.now c.loop-at.at _ here c.line_end-end.ensures).1, piece_goes_on c.args.line.now c.args.progress.gathered _ _ c.args.piece.now c.loop-at.at c.loop-at.invariant.1 _ _ _ here c.line_end-end.ensures c.take_part-further.ensures)

pub returns : goal.returns
returns c =
    piece_ends c.args.line.now c.args.progress.gathered _ _ c.args.piece.now c.loop-at.at c.loop-at.invariant.1 c.loop-at-test.false
