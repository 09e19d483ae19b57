-- Bytes that are copied into lent ones.
use mathlib.Core.Path.{◌≡◌}
use mathlib.Core.List.{List, ◌++◌, append-nil}
use Prim.Native.Nat.{ℕ, ◌-◌, ◌≤◌}
use native.Mathlib.Nat.{le_refl}
use native.Mathlib.Omega.{arith}
use lib.ListN.{length, take, drop, length-drop, drop_of_length-le}
use lib.Seq.{take-length}

-- A copy that fills what it is copied into,
pub copy_all : (src part : List ℕ) → length part ≡ length src → take (length src) src ++ drop (length src) part ≡ src
copy_all src part e =
    let h : length part ≤ length src = omega arith in
    rw (take-length src, drop_of_length-le part h, append-nil)

-- and a part from a on, put back.
pub back_from : (s y : List ℕ) (a : ℕ) → take a s ++ (y ++ drop (length s - a) (drop a s)) ≡ take a s ++ y
back_from s y a =
    let h : length (drop a s) ≤ length s - a = rw length-drop (le_refl (length s - a)) in
    rw (drop_of_length-le (drop a s) h, append-nil)
