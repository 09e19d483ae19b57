-- The lowest and the highest are the extremes of the frequencies: each is one of them, and none is beyond it; both are blank where there is none.
use mathlib.Core.Path.{◌≡◌, refl, sym, ◌∙◌, ap}
use mathlib.Core.Bool.{Bool, true, false, cond}
use mathlib.Core.Logic.{◌⊎◌, inl, inr, ⊎_elim}
use Prim.Native.Nat.{ℕ, zero, suc, ◌+◌, ◌≤◌, ◌<◌}
use native.Mathlib.Nat.{eq-or-lt_of_le, le_refl}
use native.Mathlib.Omega.{arith}
use borrow.Author.Tests.{ltb-true, ltb-false}
use lib.Dec.{ltb}
use Rattle.hundredths.specs.Hundredths.{lower_of, higher_of, with_one, extreme}
use Rattle.std.specs.Prelude.{Option, Some, None}

-- One of the frequencies at 1 to n is m.
pub record Among (f : ℕ → Option ℕ) (n m : ℕ) : Type 0 where
  pub place : ℕ
  pub counted : 1 ≤ place
  pub within : place ≤ n
  pub stands : f place ≡ Some m

-- There is one, and it comes before v or is v.
pub record Before (before : ℕ → ℕ → Type 0) (r : Option ℕ) (v : ℕ) : Type 0 where
  pub value : ℕ
  pub is : r ≡ Some value
  pub comes : before value v

-- r is the first of the frequencies at 1 to n, by an order: where it is filled it is one of them, and where one of them is filled it comes before that.
pub record First (before : ℕ → ℕ → Type 0) (f : ℕ → Option ℕ) (n : ℕ) (r : Option ℕ) : Type 0 where
  pub one : (m : ℕ) → r ≡ Some m → Among f n m
  pub all : (k v : ℕ) → 1 ≤ k → k ≤ n → f k ≡ Some v → Before before r v

-- A choice by an order: one of two, which comes before both.
record Chooses (before : ℕ → ℕ → Type 0) (choose : ℕ → Option ℕ → Option ℕ) (picked : ℕ → ℕ → ℕ) : Type 0 where
  alone : (v : ℕ) → choose v None ≡ Some v
  of_two : (v u : ℕ) → choose v (Some u) ≡ Some (picked v u)
  either : (v u : ℕ) → (picked v u ≡ v) ⊎ (picked v u ≡ u)
  new : (v u : ℕ) → before (picked v u) v
  old : (v u : ℕ) → before (picked v u) u
  itself : (v : ℕ) → before v v
  onward : (u v w : ℕ) → before u v → before v w → before u w

up_le : (i k : ℕ) → i < suc k → i ≤ k
up_le i k l = omega arith

module _ (before : ℕ → ℕ → Type 0) (choose : ℕ → Option ℕ → Option ℕ) (picked : ℕ → ℕ → ℕ) (c : Chooses before choose picked) (f : ℕ → Option ℕ) (n : ℕ) where
  later : (m : ℕ) → Among f n m → Among f (suc n) m
  later m o = record { place = o.place; counted = o.counted; within = omega (arith, o.within); stands = o.stands }

  newest : (m : ℕ) → f (suc n) ≡ Some m → Among f (suc n) m
  newest m e = record { place = suc n; counted = omega arith; within = le_refl (suc n); stands = e }

  -- what is chosen of x, the next one, and y is one of them
  one_more : (x y : Option ℕ) → f (suc n) ≡ x → ((m : ℕ) → y ≡ Some m → Among f n m) → (m : ℕ) → with_one choose x y ≡ Some m → Among f (suc n) m
  one_more None y e ih m q = later m (ih m q)
  one_more (Some v) None e ih m q = newest m (e ∙ sym (c.alone v) ∙ q)
  one_more (Some v) (Some u) e ih m q =
      let z : Some (picked v u) ≡ Some m = sym (c.of_two v u) ∙ q in
      ⊎_elim
      (λ (p : picked v u ≡ v). newest m (e ∙ ap Some (sym p) ∙ z))
      (λ (p : picked v u ≡ u). later m (ih m (ap Some (sym p) ∙ z))) (c.either v u)

  -- it comes before x
  before_new : (v : ℕ) (y : Option ℕ) → Before before (choose v y) v
  before_new v None = record { value = v; is = c.alone v; comes = c.itself v }
  before_new v (Some u) = record { value = picked v u; is = c.of_two v u; comes = c.new v u }

  -- and before what y comes before
  before_old : (x y : Option ℕ) (v : ℕ) → Before before y v → Before before (with_one choose x y) v
  before_old None y v b = b
  before_old (Some w) y v b = record {
    value = picked w b.value;
    is = ap (choose w) b.is ∙ c.of_two w b.value;
    comes = c.onward (picked w b.value) b.value v (c.old w b.value) b.comes;
  }

  all_more : (x y : Option ℕ) → f (suc n) ≡ x → ((k v : ℕ) → 1 ≤ k → k ≤ n → f k ≡ Some v → Before before y v)
      → (k v : ℕ) → 1 ≤ k → k ≤ suc n → f k ≡ Some v → Before before (with_one choose x y) v
  all_more x y e ih k v low high q = ⊎_elim
      (λ (s : k ≡ suc n). rw (sym e ∙ ap f (sym s) ∙ q) (before_new v y))
      (λ (s : k < suc n). before_old x y v (ih k v low (up_le k n s) q)) (eq-or-lt_of_le high)

module _ (before : ℕ → ℕ → Type 0) (choose : ℕ → Option ℕ → Option ℕ) (picked : ℕ → ℕ → ℕ) (c : Chooses before choose picked) (f : ℕ → Option ℕ) where
  firsts : (n : ℕ) → First before f n (extreme choose f n)
  unfolding extreme
  firsts zero = record { one = λ m q. absurd (let z : ◌≡◌ {A = ℕ} 0 1 = cc in omega arith); all = λ k v low high q. absurd (omega arith) }
  firsts (suc n) = record {
    one = one_more before choose picked c f n (f (suc n)) (extreme choose f n) refl (firsts n).one;
    all = all_more before choose picked c f n (f (suc n)) (extreme choose f n) refl (firsts n).all;
  }

-- Frequencies by their size, from the lowest
abbrev pub AtMost : ℕ → ℕ → Type 0
AtMost v w = v ≤ w

-- or from the highest.
abbrev pub AtLeast : ℕ → ℕ → Type 0
AtLeast v w = w ≤ v

picked_of : (b : Bool) (v u : ℕ) → (cond b v u ≡ v) ⊎ (cond b v u ≡ u)
picked_of true v u = inl refl
picked_of false v u = inr refl

low_new : (v u : ℕ) (b : Bool) → ltb v u ≡ b → cond b v u ≤ v
low_new v u true e = le_refl v
low_new v u false e = ltb-false v u e

low_old : (v u : ℕ) (b : Bool) → ltb v u ≡ b → cond b v u ≤ u
low_old v u true e = omega (arith, ltb-true v u e)
low_old v u false e = le_refl u

high_new : (v u : ℕ) (b : Bool) → ltb u v ≡ b → v ≤ cond b v u
high_new v u true e = le_refl v
high_new v u false e = ltb-false u v e

high_old : (v u : ℕ) (b : Bool) → ltb u v ≡ b → u ≤ cond b v u
high_old v u true e = omega (arith, ltb-true u v e)
high_old v u false e = le_refl u

chooses_lower : Chooses AtMost lower_of (λ v u. cond (ltb v u) v u)
unfolding lower_of
chooses_lower = record {
  alone = λ v. refl;
  of_two = λ v u. refl;
  either = λ v u. picked_of (ltb v u) v u;
  new = λ v u. low_new v u (ltb v u) refl;
  old = λ v u. low_old v u (ltb v u) refl;
  itself = λ v. le_refl v;
  onward = λ u v w p q. omega (arith, p, q);
}

chooses_higher : Chooses AtLeast higher_of (λ v u. cond (ltb u v) v u)
unfolding higher_of
chooses_higher = record {
  alone = λ v. refl;
  of_two = λ v u. refl;
  either = λ v u. picked_of (ltb u v) v u;
  new = λ v u. high_new v u (ltb u v) refl;
  old = λ v u. high_old v u (ltb u v) refl;
  itself = λ v. le_refl v;
  onward = λ u v w p q. omega (arith, p, q);
}

-- The lowest is the first of the frequencies from the lowest on,
pub lowest_is : (f : ℕ → Option ℕ) (n : ℕ) → First AtMost f n (extreme lower_of f n)
lowest_is = firsts AtMost lower_of (λ v u. cond (ltb v u) v u) chooses_lower

-- and the highest the first from the highest on.
pub highest_is : (f : ℕ → Option ℕ) (n : ℕ) → First AtLeast f n (extreme higher_of f n)
highest_is = firsts AtLeast higher_of (λ v u. cond (ltb u v) v u) chooses_higher
