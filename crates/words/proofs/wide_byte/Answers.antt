-- `words::wide_byte` meets its contract: a byte is below 256.
use native.Mathlib.Omega.{arith}
use Rattle.words.proofs.wide_byte.Goals as goal

pub returns : goal.returns
returns c = record {
  value = c.from.ensures;
  upper_bound = omega (arith, c.shared_slice_known-1.given c.args.at);
}
