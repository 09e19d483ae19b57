-- A `match` on a byte decides as a set does: one computed test for each run of bytes between two ends, and one for the bytes that are named singly.
use mathlib.Core.Path.{◌≡◌, refl, sym, ap, ◌∙◌}
use mathlib.Core.Logic.{◌⊎◌, inl, inr}
use mathlib.Core.Bool.{Bool, true, false, ◌&&◌, ◌||◌, beq}
use mathlib.Core.List.{List, [], ◌∷◌}
use Prim.Native.Nat.{ℕ, zero, suc, ◌+◌, ◌-◌, ◌≤◌, ◌<◌}
use native.Mathlib.Omega.{arith}
use native.Mathlib.Nat.{eq-or-lt_of_le}
use lib.Dec.{T}
use mir.Val.{has_key}
use types.Run.{OneOf, hit}

-- both hold
pub and_left : (a b : Bool) → T (a && b) → T a
and_left true b t = tt
and_left false b t = t

pub and_right : (a b : Bool) → T (a && b) → T b
and_right true b t = t
and_right false b t = absurd t

-- of two answers that agree, one is the other
agreed : (a b : Bool) → T (beq a b) → a ≡ b
agreed true true t = refl
agreed true false t = absurd t
agreed false true t = absurd t
agreed false false t = refl

-- each of the n bytes from low on is one of the keys, or the set answers b
abbrev pub agree : (ℕ → Bool) → Bool → List ℕ → ℕ → ℕ → Bool
agree set b keys low zero = true
agree set b keys low (suc n) = (has_key keys (low + n) || beq b (set (low + n))) && agree set b keys low n

module _ (set : ℕ → Bool) (b : Bool) (keys : List ℕ) where
  not_key : (c : ℕ) → T (has_key keys c || beq b (set c)) → (OneOf keys c → ⊥) → b ≡ set c
  not_key c t n = by (has_key keys c) (hit keys c) t where
    by : (k : Bool) → (T k → OneOf keys c) → T (k || beq b (set c)) → b ≡ set c
    by true f t = absurd (n (f tt))
    by false f t = agreed b (set c) t

  run : (low n : ℕ) → T (agree set b keys low n) → (c : ℕ) → low ≤ c → c < low + n → (OneOf keys c → ⊥) → b ≡ set c
  run low zero t c l h n = absurd (omega arith)
  run low (suc k) t c l h n = by (run low k (and_right (has_key keys (low + k) || beq b (set (low + k))) (agree set b keys low k) t) c l) (eq-or-lt_of_le (omega arith)) where
    by : (c < low + k → (OneOf keys c → ⊥) → b ≡ set c) → (c ≡ low + k) ⊎ (c < low + k) → b ≡ set c
    by below (inl e) =
        let here : T (has_key keys (low + k) || beq b (set (low + k))) = and_left (has_key keys (low + k) || beq b (set (low + k))) (agree set b keys low k) t in
        not_key c (rw e here) n
    by below (inr m) = below m n

  -- a byte from low up to, not including, high that is none of the keys
  pub decided : (low high : ℕ) → T (agree set b keys low (high - low)) → (c : ℕ) → low ≤ c → c < high → (OneOf keys c → ⊥) → b ≡ set c
  decided low high t c l h n = run low (high - low) t c l (omega arith) n

-- the set answers b at each key
abbrev pub answers : (ℕ → Bool) → Bool → List ℕ → Bool
answers set b [] = true
answers set b (k ∷ ks) = beq b (set k) && answers set b ks

-- a byte that is one of the keys
pub keyed : (set : ℕ → Bool) (b : Bool) (keys : List ℕ) → T (answers set b keys) → (c : ℕ) → OneOf keys c → b ≡ set c
keyed set b [] t c o = absurd o
keyed set b (k ∷ []) t c o = rw o (agreed b (set k) (and_left (beq b (set k)) (answers set b []) t))
keyed set b (k ∷ j ∷ ks) t c (inl e) = rw e (agreed b (set k) (and_left (beq b (set k)) (answers set b (j ∷ ks)) t))
keyed set b (k ∷ j ∷ ks) t c (inr o) = keyed set b (j ∷ ks) (and_right (beq b (set k)) (answers set b (j ∷ ks)) t) c o

-- both answer the same below n
abbrev pub agreeing : (ℕ → Bool) → (ℕ → Bool) → ℕ → Bool
agreeing S R zero = true
agreeing S R (suc n) = beq (S n) (R n) && agreeing S R n

-- so on each number below n: one computed test for all bytes
pub agree_below : (S R : ℕ → Bool) (n : ℕ) → T (agreeing S R n) → (c : ℕ) → c < n → S c ≡ R c
agree_below S R zero t c h = absurd (omega arith)
agree_below S R (suc n) t c h =
    by (eq-or-lt_of_le (omega arith)) (agreed (S n) (R n) (and_left (beq (S n) (R n)) (agreeing S R n) t)) (agree_below S R n (and_right (beq (S n) (R n)) (agreeing S R n) t) c) where
      by : (c ≡ n) ⊎ (c < n) → S n ≡ R n → (c < n → S c ≡ R c) → S c ≡ R c
      by (inl e) q f = ap S e ∙ q ∙ ap R (sym e)
      by (inr l) q f = f l
