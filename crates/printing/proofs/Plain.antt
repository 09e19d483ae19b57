-- Plain decimal says the number, in the fewest digits.
use mathlib.Core.Path.{◌≡◌, refl, ◌∙◌}
use mathlib.Core.Bool.{Bool, true, false, cond}
use Prim.Native.Nat.{ℕ, ◌-◌, ◌^◌, ◌≤◌, ◌<◌}
use native.Mathlib.Nat.{zero-mul, zero-add}
use native.Mathlib.Omega.{arith}
use lib.Dec.{ltb}
use borrow.Author.Tests.{ltb-true, ltb-false}
use Rattle.numerals.specs.Numbers.{number}
use Rattle.numerals.proofs.RoundTrip.{spelled_says}
use Rattle.printing.specs.Lines.{places, decimal}

module _ (v : ℕ) where
  -- there is a place for each digit
  enough : v < 1000 → v < 10 ^ places v
  unfolding places
  enough h = by_case (ltb v 10) (ltb v 100) refl refl
    where
      by_case : (a b : Bool) → ltb v 10 ≡ a → ltb v 100 ≡ b → v < 10 ^ cond a 1 (cond b 2 3)
      by_case true b ea eb = ltb-true v 10 ea
      by_case false true ea eb = ltb-true v 100 eb
      by_case false false ea eb = h

  -- The digits of a number below 1,000 say it,
  pub decimal_says : v < 1000 → number (decimal v) ≡ v
  unfolding decimal
  decimal_says h = spelled_says (places v) 0 v (enough h) ∙ rw (zero-mul (10 ^ places v), zero-add v)

  -- and the first of two or more is no zero.
  pub no_zero_first : 10 ≤ v → 10 ^ (places v - 1) ≤ v
  unfolding places
  no_zero_first h = by_case (ltb v 10) (ltb v 100) refl refl
    where
      by_case : (a b : Bool) → ltb v 10 ≡ a → ltb v 100 ≡ b → 10 ^ (cond a 1 (cond b 2 3) - 1) ≤ v
      by_case true b ea eb = omega arith
      by_case false true ea eb = h
      by_case false false ea eb = ltb-false v 100 eb
