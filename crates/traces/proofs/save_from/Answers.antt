-- `traces::save_from` meets its contract: what is left of the trace, or 222 bytes of it.
use mathlib.Core.Path.{sym, ◌∙◌}
use Prim.Native.Nat.{◌-◌}
use lib.ListN.{length, drop, length-drop}
use lib.Seq.{length-take-le, take_all}
use native.Mathlib.Omega.{arith}
use Rattle.traces.specs.Traces.{save_length}
use Rattle.traces.proofs.save_from.Goals as goal

pub returns-then-rest-lt-SAVE_LENGTH : goal.returns-then-rest-lt-SAVE_LENGTH
returns-then-rest-lt-SAVE_LENGTH c =
    let t = c.args.trace.now in
    let at = c.args.at in
    let l = length-drop at t in
    take_all (length t - at) (drop at t) (omega (arith, l)) ∙ sym (take_all save_length (drop at t) (omega (arith, l, c.if-rest-lt-SAVE_LENGTH.true)))

pub slice_bounds-result-end : goal.slice_bounds-result-end
slice_bounds-result-end c =
    let t = c.args.trace.now in
    let at = c.args.at in
    let l = length-drop at t in
    let whole = take_all (length t - at) (drop at t) (omega (arith, l)) in
    rw whole (sym (length-take-le save_length (drop at t) (omega (arith, l, c.if-rest-lt-SAVE_LENGTH.false))))

pub returns : goal.returns
returns c =
    let t = c.args.trace.now in
    let at = c.args.at in
    rw (take_all (length t - at) (drop at t) (omega (arith, length-drop at t)))
