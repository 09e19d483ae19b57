-- `replaying::running::run_save` meets its contract: a replacement of the record that the save has.
use mathlib.Core.Path.{sym, ◌∙◌}
use Prim.Native.Nat.{◌-◌}
use lib.ListN.{length, drop, length-drop}
use lib.Seq.{length-take-le, take_all}
use native.Mathlib.Omega.{arith}
use Rattle.basics.proofs.RefusalLaws.{ok-ends}
use Rattle.traces.specs.Traces.{saved_digits}
use Rattle.trace_runs.proofs.RunLaws.{as_saved, told_taken, told_refused}
use Rattle.replaying.proofs.running.run_save.Goals as goal

pub slice_bounds-amount_in-end : goal.slice_bounds-amount_in-end
slice_bounds-amount_in-end c = sym (length-take-le saved_digits c.args.save.now (omega (arith, c.requires)))

pub returns-then-is_ok : goal.returns-then-is_ok
returns-then-is_ok c =
    let save = c.args.save.now in
    let whole = take_all (length save - saved_digits) (drop saved_digits save) (omega (arith, length-drop saved_digits save)) in
    let run = as_saved c.args.file.now c.args.sheet.now c.replace-replaced.result save c.amount_in-number.ensures whole c.replace-replaced.ensures.record_replaced in
    record {
      upper_bound = omega arith;
      value = told_taken run.0 (c.is_ok.ensures.value ∙ ok-ends _) c.if-is_ok.true;
      file_after = run.1;
      sheet_after = run.2;
    }

pub returns : goal.returns
returns c =
    let save = c.args.save.now in
    let whole = take_all (length save - saved_digits) (drop saved_digits save) (omega (arith, length-drop saved_digits save)) in
    let run = as_saved c.args.file.now c.args.sheet.now c.replace-replaced.result save c.amount_in-number.ensures whole c.replace-replaced.ensures.record_replaced in
    record {
      upper_bound = omega arith;
      value = told_refused run.0 (c.is_ok.ensures.value ∙ ok-ends _) c.if-is_ok.false;
      file_after = run.1;
      sheet_after = run.2;
    }
