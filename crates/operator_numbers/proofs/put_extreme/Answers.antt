-- `operator_numbers::put_extreme` meets its contract: nothing, or the words and the frequency twice.
use Rattle.printing.proofs.AppendLaws.{none, then}
use Rattle.operator_numbers.specs.Frequencies.{extreme_text}
use native.Mathlib.Omega.{arith}
use Rattle.operator_numbers.proofs.put_extreme.Goals as goal

pub returns-in-None : goal.returns-in-None
unfolding extreme_text
returns-in-None c = record {
  appended = rw c.in-None.is (none c.args.out.now c.args.start (omega (arith, c.requires)));
  upper_bound = omega arith;
}

pub returns-in-Some : goal.returns-in-Some
unfolding extreme_text
returns-in-Some c = record {
  appended = rw c.in-Some.is (then c.put_text-label_end.ensures (then c.put_digits_of-digits_end.ensures.appended (then c.put_text-space_end.ensures (then c.put_megahertz-end.ensures.appended c.put_text.ensures))));
  upper_bound = omega (arith, c.put_text-label_end.ensures.ends, c.put_digits_of-digits_end.ensures.upper_bound, c.put_text-space_end.ensures.ends, c.put_megahertz-end.ensures.upper_bound, c.put_text.ensures.ends);
}
