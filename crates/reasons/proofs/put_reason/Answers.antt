-- `reasons::put_reason` meets its contract: a field, where the code names one, and the flaw.
use native.Mathlib.Omega.{arith}
use Rattle.printing.proofs.AppendLaws.{then}
use Rattle.reasons.proofs.ReasonLaws.{reason_none, reason_above, reason_field}
use Rattle.reasons.proofs.put_reason.Goals as goal

pub returns-then-code-eq0 : goal.returns-then-code-eq0
returns-then-code-eq0 c = record {
  appended = rw (reason_none c.args.rec.now c.args.code c.if-code-eq0.true, ← c.record_flaw-flaw.ensures) c.put_flaw.ensures.appended;
  upper_bound = omega (arith, c.put_flaw.ensures.upper_bound);
}

pub returns-then-code-gt30 : goal.returns-then-code-gt30
returns-then-code-gt30 c = record {
  appended = rw (reason_above c.args.rec.now c.args.code (omega (arith, c.if-code-gt30.true)), ← c.record_flaw-flaw.ensures) c.put_flaw-then-code-gt30.ensures.appended;
  upper_bound = omega (arith, c.put_flaw-then-code-gt30.ensures.upper_bound);
}

pub returns : goal.returns
returns c = record {
  appended = rw (reason_field c.args.rec.now c.args.code c.if-code-eq0.false (omega (arith, c.if-code-gt30.false)), ← c.record_flaw-flaw.ensures) (then c.put_field-end.ensures.appended c.put_flaw-2.ensures.appended);
  upper_bound = omega (arith, c.put_field-end.ensures.upper_bound, c.put_flaw-2.ensures.upper_bound);
}
