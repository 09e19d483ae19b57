-- The first byte of a field as the code takes it.
use mathlib.Core.Path.{◌≡◌}
use mathlib.Core.List.{List}
use Prim.Native.Nat.{ℕ, ◌<◌}
use native.Mathlib.Nat.{add-zero}
use lib.ListN.{get_or, take, drop}
use lib.Seq.{get_or-take, get_or-drop}

-- it is that byte of the record
pub head_field : (w i : ℕ) (r : List ℕ) → 0 < w → get_or (take w (drop i r)) 0 0 ≡ get_or r i 0
head_field w i r h = rw (get_or-take, get_or-drop, add-zero)
