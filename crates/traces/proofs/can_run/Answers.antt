-- `traces::can_run` meets its contract.
use mathlib.Core.Path.{sym}
use lib.Seq.{length-take-le}
use borrow.Author.Tests.{eq-eqb, ne_eqb}
use native.Mathlib.Omega.{arith}
use Rattle.traces.specs.Traces.{saved_digits, can_run}
use Rattle.traces.proofs.can_run.Goals as goal

pub returns-then-save-ne-SAVE_LENGTH : goal.returns-then-save-ne-SAVE_LENGTH
unfolding can_run
returns-then-save-ne-SAVE_LENGTH c = rw (ne_eqb _ _ c.if-save-ne-SAVE_LENGTH.true)

pub slice_bounds-all_in-end : goal.slice_bounds-all_in-end
slice_bounds-all_in-end c = sym (length-take-le saved_digits c.args.save.now (omega (arith, c.if-save-ne-SAVE_LENGTH.false)))

pub returns : goal.returns
unfolding can_run
returns c = rw (eq-eqb _ _ c.if-save-ne-SAVE_LENGTH.false, c.all_in.ensures)
