-- Numbers in plain decimal and fractions without their last zeros: how long they are, and that nothing is lost.
use mathlib.Core.Path.{◌≡◌, refl, sym, ap, ◌∙◌}
use mathlib.Core.Bool.{Bool, true, false, cond}
use mathlib.Core.List.{[]}
use Prim.Native.Nat.{ℕ, zero, suc, ◌+◌, ◌-◌, ◌*◌, ◌/◌, ◌%◌, ◌^◌, ◌≤◌, ◌<◌}
use native.Mathlib.Nat.{add-zero, le_refl, pow-suc, mul_assoc, mul-one, sub_self}
use native.Mathlib.Numerals.{add-one}
use native.Mathlib.Omega.{arith}
use borrow.Author.Tests.{eqb-true, ltb-true, lt-ltb, le-ltb, eq-eqb, ne_eqb}
use lib.Dec.{ltb, eqb}
use lib.ListN.{length}
use Rattle.numerals.specs.Numbers.{spell_whole}
use Rattle.numerals.proofs.RoundTrip.{spelled_length}
use Rattle.operator_numbers.specs.Frequencies.{digits_in, shortened}

-- A number has k + 1 digits at most,
pub digits_most : (k v : ℕ) → digits_in k v ≤ suc k
unfolding digits_in
digits_most zero v = le_refl 1
digits_most (suc k) v = by (ltb v 10) (digits_most k (v / 10))
  where
    by : (b : Bool) → digits_in k (v / 10) ≤ suc k → cond b 1 (suc (digits_in k (v / 10))) ≤ suc (suc k)
    by true h = omega arith
    by false h = omega (arith, h)

-- and a fraction k + 1 places at most.
pub places_most : (k f : ℕ) → (shortened k f).places ≤ suc k
unfolding shortened
places_most zero f = le_refl 1
places_most (suc k) f = by (eqb (f % 10) 0) (places_most k (f / 10))
  where
    by : (b : Bool) → (shortened k (f / 10)).places ≤ suc k → (cond b (shortened k (f / 10)) (record { places = suc (suc k); digits = f })).places ≤ suc (suc k)
    by true h = omega (arith, h)
    by false h = le_refl (suc (suc k))

-- A number in columns has their length.
pub columns_length : (k v : ℕ) → length (spell_whole k v) ≡ k
columns_length k v = spelled_length k v [] ∙ add-zero k

-- A number of k + 1 digits at most has as many digits as are counted, so that what is spelled says it.
pub digits_enough : (k v : ℕ) → v < 10 ^ suc k → v < 10 ^ digits_in k v
unfolding digits_in
digits_enough zero v h = h
digits_enough (suc k) v h = by (ltb v 10) refl (digits_enough k (v / 10) (omega (arith, h, pow-suc 10 (suc k))))
  where
    by : (b : Bool) → ltb v 10 ≡ b → v / 10 < 10 ^ digits_in k (v / 10) → v < 10 ^ cond b 1 (suc (digits_in k (v / 10)))
    by true e i = omega (arith, ltb-true v 10 e)
    by false e i = omega (arith, i, pow-suc 10 (digits_in k (v / 10)))

-- one zero more behind
one_zero : (d a b f : ℕ) → f % 10 ≡ 0 → a ≤ b → d * 10 ^ (b - a) ≡ f / 10 → d * 10 ^ (suc b - a) ≡ f
one_zero d a b f z l e =
    let up : suc b - a ≡ suc (b - a) = omega arith in
    let q : d * 10 ^ (b - a) * 10 ≡ f = omega (arith, e, z) in
    rw up (ap (λ (x : ℕ). d * x) (pow-suc 10 (b - a)) ∙ sym (mul_assoc d (10 ^ (b - a)) 10) ∙ q)

-- A fraction without its last zeros is that fraction.
pub nothing_lost : (k f : ℕ) → (shortened k f).digits * 10 ^ (suc k - (shortened k f).places) ≡ f
unfolding shortened
nothing_lost zero f = mul-one f
nothing_lost (suc k) f = by (eqb (f % 10) 0) refl (nothing_lost k (f / 10))
  where
    by : (b : Bool) → eqb (f % 10) 0 ≡ b → (shortened k (f / 10)).digits * 10 ^ (suc k - (shortened k (f / 10)).places) ≡ f / 10
        → (cond b (shortened k (f / 10)) (record { places = suc (suc k); digits = f })).digits * 10 ^ (suc (suc k) - (cond b (shortened k (f / 10)) (record { places = suc (suc k); digits = f })).places) ≡ f
    by true e i = one_zero (shortened k (f / 10)).digits (shortened k (f / 10)).places (suc k) f (eqb-true (f % 10) 0 e) (places_most k (f / 10)) i
    by false e i = rw (sub_self (suc (suc k))) (mul-one f)

-- The digits of a number that has more may be,
pub digits_more : (k v : ℕ) → 0 < k → 10 ≤ v → digits_in k v ≡ suc (digits_in (k - 1) (v / 10))
unfolding digits_in
digits_more zero v h l = absurd (omega arith)
digits_more (suc k) v h l = let less : suc k - 1 ≡ k = omega arith in rw (le-ltb v 10 l, less)

-- of one that has one,
pub digits_small : (k v : ℕ) → 0 < k → v < 10 → digits_in k v ≡ 1
unfolding digits_in
digits_small zero v h l = absurd (omega arith)
digits_small (suc k) v h l = rw (lt-ltb v 10 l)

-- and where no more may be.
pub digits_none : (k v : ℕ) → k ≤ 0 → digits_in k v ≡ 1
unfolding digits_in
digits_none zero v h = refl
digits_none (suc k) v h = absurd (omega arith)

-- A fraction that ends in a zero is shortened by it,
pub short_on : (k f : ℕ) → 0 < k → f % 10 ≡ 0 → shortened k f ≡ shortened (k - 1) (f / 10)
unfolding shortened
short_on zero f h e = absurd (omega arith)
short_on (suc k) f h e = let less : suc k - 1 ≡ k = omega arith in rw (eq-eqb (f % 10) 0 e, less)

-- one that does not stays,
pub short_stop : (k f : ℕ) → 0 < k → (f % 10 ≡ 0 → ⊥) → shortened k f ≡ record { places = k + 1; digits = f }
unfolding shortened
short_stop zero f h n = absurd (omega arith)
short_stop (suc k) f h n = rw (ne_eqb (f % 10) 0 n, add-one (suc k))

-- and so does its last digit.
pub short_none : (k f : ℕ) → k ≤ 0 → shortened k f ≡ record { places = 1; digits = f }
unfolding shortened
short_none zero f h = refl
short_none (suc k) f h = absurd (omega arith)
