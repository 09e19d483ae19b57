-- Where a record of a file stands.
use mathlib.Core.Path.{◌≡◌, sym, ap}
use mathlib.Core.List.{List}
use Prim.Native.Nat.{ℕ, ◌*◌, ◌/◌, ◌≤◌, ◌<◌}
use native.Mathlib.Omega.{arith}
use lib.ListN.{length}
use lib.Seq.{take_all, length-take-le}
use Rattle.files.specs.Files.{record_offset}

module _ (file : List ℕ) (k : ℕ) where
  -- A record begins after the records before it,
  pub offset_there : 219 * k ≤ length file → 219 * k ≡ record_offset file k
  unfolding record_offset
  offset_there h = sym (length-take-le (219 * k) file h)

  -- and one that is past the end at the end.
  pub offset_past : length file / 219 < k → length file ≡ record_offset file k
  unfolding record_offset
  offset_past h = sym (ap length (take_all (219 * k) file (omega arith)))
