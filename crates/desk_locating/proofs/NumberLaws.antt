-- Where a vehicle number begins, by how many digits of it a name holds.
use mathlib.Core.Path.{◌≡◌, refl}
use mathlib.Core.Bool.{Bool, true, false, cond}
use mathlib.Core.List.{List, []}
use Prim.Native.Nat.{ℕ}
use native.Mathlib.Omega.{arith}
use lib.ListN.{length, drop, length-drop}
use lib.Seq.{length-take-le}
use Rattle.vehicles.specs.Names.{middle, holds_number, number_in, number_offset}
use Rattle.vehicles.proofs.NameLaws.{holding_twenty}

-- a name that holds a number holds twelve digits
twelve : (name : List ℕ) → holds_number name ≡ true → length (middle name) ≡ 12
twelve name h = length-take-le 12 (drop 5 name) (omega (arith, holding_twenty name h, length-drop 5 name))

-- Where it holds none the offset is 0,
pub none_held : (name : List ℕ) → length (number_in name) ≡ 0 → 0 ≡ number_offset name
unfolding number_in number_offset
none_held name = by (holds_number name) (twelve name)
  where
    by : (b : Bool) → (b ≡ true → length (middle name) ≡ 12) → length (cond b (middle name) []) ≡ 0 → ◌≡◌ {A = ℕ} 0 (cond b 5 0)
    by true t e = absurd (omega (arith, t refl, e))
    by false t e = refl

-- and else 5.
pub one_held : (name : List ℕ) → (length (number_in name) ≡ 0 → ⊥) → 5 ≡ number_offset name
unfolding number_in number_offset
one_held name = by (holds_number name)
  where
    by : (b : Bool) → (length (cond b (middle name) []) ≡ 0 → ⊥) → ◌≡◌ {A = ℕ} 5 (cond b 5 0)
    by true e = refl
    by false e = absurd (e refl)
