-- A span, of any number of 64 bits, is from its lowest to its highest.
use mathlib.Core.Path.{◌≡◌, refl, sym, ap, ◌∙◌}
use mathlib.Core.Bool.{Bool, true, false, cond, ◌&&◌, and-true}
use Prim.Native.Nat.{ℕ, ◌-◌, ◌≤◌, ◌<◌}
use native.Mathlib.Omega.{arith}
use lib.Dec.{ltb, leb, eqb}
use lib.IntN.{ℤ, nat_abs}
use borrow.Author.Tests.{eqb-true, eqb-false, le-leb, lt-ltb, le-ltb, leb-true, leb-false}
use Rattle.columns.proofs.TextLaws.{cond_case}
use Rattle.numerals.specs.Numbers.{is_negative}
use Rattle.spans.specs.Spans.{unbounded, from_to, either_side}

-- no number is below 0
from_zero : (low n : ℕ) → eqb low 0 ≡ true → leb low n ≡ true
from_zero low n e = le-leb low n (omega (arith, eqb-true low 0 e))

-- none of 64 bits is above the highest that there is
to_any : (high n : ℕ) → n ≤ unbounded → eqb high unbounded ≡ true → leb n high ≡ true
to_any high n h e = le-leb n high (omega (arith, eqb-true high unbounded e))

-- from a number on is above the one before it
above : (low n : ℕ) → eqb low 0 ≡ false → leb low n ≡ ltb (low - 1) n
above low n e = by (leb low n) refl where
  by : (b : Bool) → leb low n ≡ b → b ≡ ltb (low - 1) n
  by true q = sym (lt-ltb (low - 1) n (omega (arith, leb-true low n q, eqb-false low 0 e)))
  by false q = sym (le-ltb (low - 1) n (omega (arith, leb-false low n q)))

pub from_to_lem : (low high n : ℕ) → n ≤ unbounded → (leb low n && leb n high) ≡ from_to low high n
from_to_lem low high n h = by (eqb low 0) refl (eqb high unbounded) refl where
  by : (a : Bool) → eqb low 0 ≡ a → (b : Bool) → eqb high unbounded ≡ b → (leb low n && leb n high) ≡ cond a (cond b true (leb n high)) (cond b (ltb (low - 1) n) (leb low n && leb n high))
  by true e true f = rw (from_zero low n e, to_any high n h f)
  by true e false f = rw (from_zero low n e)
  by false e true f = rw (to_any high n h f) (and-true (leb low n) ∙ above low n e)
  by false e false f = refl

-- a bound that holds either way
either_way : (b : Bool) (low high : ℕ) → eqb low high ≡ true → cond b low high ≡ high
either_way true low high e = eqb-true low high e
either_way false low high e = refl

pub either_side_lem : (low high : ℕ) (z : ℤ) → nat_abs z ≤ unbounded → leb (nat_abs z) (cond (is_negative z) low high) ≡ either_side low high z
either_side_lem low high z h = by (eqb low high) refl (eqb high unbounded) refl where
  by : (a : Bool) → eqb low high ≡ a → (b : Bool) → eqb high unbounded ≡ b
      → leb (nat_abs z) (cond (is_negative z) low high) ≡ cond a (cond b true (leb (nat_abs z) high)) (leb (nat_abs z) (cond (is_negative z) low high))
  by true e true f = rw (either_way (is_negative z) low high e) (to_any high (nat_abs z) h f)
  by true e false f = rw (either_way (is_negative z) low high e)
  by false e b f = refl
