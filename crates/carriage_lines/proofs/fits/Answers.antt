-- `carriage_lines::fits` meets its contract.
use mathlib.Core.Path.{ap}
use mathlib.Core.List.{List}
use Prim.Native.Nat.{ℕ}
use lib.Dec.{leb}
use lib.ListN.{length}
use Rattle.carriage_lines.proofs.fits.Goals as goal

pub returns : goal.returns
returns c = ap (λ (f : List ℕ). leb (length f) c.args.w) c.field_after.ensures
