-- Going through the numbers 1 to n: the first that passes, and how many do.
use mathlib.Core.Path.{◌≡◌, refl, sym, ◌∙◌}
use mathlib.Core.Bool.{Bool, true, false, cond}
use mathlib.Core.List.{List, [], ◌∷◌, ◌++◌}
use Prim.Native.Nat.{ℕ, zero, suc, ◌+◌, ◌-◌, ◌≤◌, ◌<◌}
use native.Mathlib.Nat.{le_refl, add-zero, add-suc}
use native.Mathlib.Numerals.{add-one}
use native.Mathlib.Omega.{arith}
use lib.ListN.{length, length-append}
use Rattle.forms.specs.Counting.{or_else, first, count}

-- what was found below stays found
first_stop : (p : ℕ → Bool) (m d x : ℕ) → first p m ≡ suc x → first p (m + d) ≡ suc x
first_stop p m zero x e = rw add-zero e
first_stop p m (suc d) x e = rw (add-suc m d, first_stop p m d x e)

-- the first of two tests that agree
pub first_cong : (p q : ℕ → Bool) (n : ℕ) → ((i : ℕ) → i < n → p (suc i) ≡ q (suc i)) → first p n ≡ first q n
first_cong p q zero h = refl
first_cong p q (suc n) h = rw (first_cong p q n (λ i l. h i (omega arith)), h n (le_refl (suc n)))

-- and their counts
pub count_cong : (p q : ℕ → Bool) (n : ℕ) → ((i : ℕ) → i < n → p (suc i) ≡ q (suc i)) → count p n ≡ count q n
count_cong p q zero h = refl
count_cong p q (suc n) h = rw (count_cong p q n (λ i l. h i (omega arith)), h n (le_refl (suc n)))

-- a search that has found none so far
module _ (p : ℕ → Bool) (n i : ℕ) (none : first p i ≡ 0) where
  pub first_found : i < n → p (i + 1) ≡ true → i + 1 ≡ first p n
  first_found l hit =
      let hit' : p (suc i) ≡ true = rw add-one at hit in
      let here : first p (suc i) ≡ suc i = rw (none, hit') in
      let e : suc i + (n - suc i) ≡ n = omega arith in
      let end : first p (suc i + (n - suc i)) ≡ suc i = first_stop p (suc i) (n - suc i) i here in
      add-one i ∙ sym (rw e at end)

  pub first_missed : p (i + 1) ≡ false → first p (i + 1) ≡ 0
  first_missed miss = let miss' : p (suc i) ≡ false = rw add-one at miss in rw (add-one i, none, miss')

-- a count so far
module _ (p : ℕ → Bool) (i c : ℕ) (so_far : c ≡ count p i) where
  pub count_hit : p (i + 1) ≡ true → c + 1 ≡ count p (i + 1)
  count_hit hit = let h : p (suc i) ≡ true = rw add-one at hit in rw (so_far, add-one i, h)

  pub count_miss : p (i + 1) ≡ false → c ≡ count p (i + 1)
  count_miss miss = let h : p (suc i) ≡ false = rw add-one at miss in rw (so_far, add-one i, h) (omega arith)

-- Neither is above n.
pub first_most : (p : ℕ → Bool) (n : ℕ) → first p n ≤ n
first_most p zero = omega arith
first_most p (suc n) = by (first p n) (p (suc n)) (first_most p n)
  where
    by : (x : ℕ) (b : Bool) → x ≤ n → or_else x (cond b (suc n) 0) ≤ suc n
    by zero true h = omega arith
    by zero false h = omega arith
    by (suc x) b h = omega arith

pub count_most : (p : ℕ → Bool) (n : ℕ) → count p n ≤ n
count_most p zero = omega arith
count_most p (suc n) = by (p (suc n)) (count_most p n)
  where
    by : (b : Bool) → count p n ≤ n → count p n + cond b 1 0 ≤ suc n
    by true h = omega arith
    by false h = omega arith

-- Where none passes the count is 0.
pub count_none : (p : ℕ → Bool) (n : ℕ) → ((i : ℕ) → p i ≡ false) → count p n ≡ 0
count_none p zero h = refl
count_none p (suc n) h = rw (count_none p n h, h (suc n))

-- The numbers of 1 to n that pass.
abbrev pub those : (ℕ → Bool) → ℕ → List ℕ
those test zero = []
those test (suc n) = those test n ++ cond (test (suc n)) (suc n ∷ []) []

-- The count is the size of that set.
pub count-those : (test : ℕ → Bool) (n : ℕ) → count test n ≡ length (those test n)
count-those test zero = refl
count-those test (suc n) = rw (length-append, count-those test n) (last (test (suc n)))
  where
    last : (b : Bool) → length (those test n) + cond b 1 0 ≡ length (those test n) + length (cond b (suc n ∷ []) [])
    last true = refl
    last false = refl
