-- `faults::marking::ends_in_feed` meets its contract.
use mathlib.Core.Path.{ap}
use Prim.Native.Nat.{ℕ}
use lib.Dec.{eqb}
use Rattle.faults.proofs.marking.ends_in_feed.Goals as goal

pub returns : goal.returns
returns c = ap (λ (x : ℕ). eqb x 10) c.last_byte.ensures
