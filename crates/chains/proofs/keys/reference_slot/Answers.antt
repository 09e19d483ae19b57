-- `chains::keys::reference_slot` meets its contract: its first and its last eight bytes.
use native.Mathlib.Omega.{arith}
use Rattle.chains.specs.Keys.{reference_slot}
use Rattle.chains.proofs.keys.reference_slot.Goals as goal

pub returns : goal.returns
unfolding reference_slot
returns c = record {
  value = cc;
  upper_bound = omega arith;
}
