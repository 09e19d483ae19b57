-- Digits that are written, place by place.
use mathlib.Core.Path.{◌≡◌, refl, sym, ap, ◌∙◌}
use mathlib.Core.List.{List, [], ◌∷◌, ◌++◌}
use Prim.Native.Nat.{ℕ, zero, suc, ◌+◌, ◌-◌, ◌/◌, ◌%◌, ◌^◌, ◌≤◌, ◌<◌}
use native.Mathlib.Omega.{arith}
use native.Mathlib.Numerals.{sub-one}
use native.Mathlib.Nat.{add-zero, add-suc, pow-succ', div-one, div-div-eq-div-mul}
use lib.ListN.{length, set, take, drop, length-append, drop_of_length-le, take-append-drop}
use lib.Seq.{set_split, drop_at, length-take-le, take-append-le, take-take}
use Rattle.numerals.specs.Numbers.{spell_digits}

-- what stands from a place on after it is written
drop-set : (l : List ℕ) (j x : ℕ) → j < length l → drop j (set l j x) ≡ x ∷ drop (suc j) l
drop-set l j x h = rw (set_split l j x h) (drop_at (take j l) (x ∷ drop (suc j) l) j (length-take-le j l (omega arith)))

-- one more digit, put in front of those that stand
pub spell_turn : (s : List ℕ) (at k m : ℕ) → 0 < k → at + k ≤ length s
    → spell_digits k m (drop (at + k) s) ≡ spell_digits (k - 1) (m / 10) (drop (at + (k - 1)) (set s (at + (k - 1)) (48 + m % 10)))
unfolding spell_digits
spell_turn s at zero m h l = absurd (omega arith)
spell_turn s at (suc k) m h l = rw (sub-one, drop-set s (at + k) (48 + m % 10) (omega arith), add-suc)

-- and what is left of the number
pub div_turn : (k m : ℕ) → 0 < k → m / 10 ^ k ≡ m / 10 / 10 ^ (k - 1)
div_turn zero m h = absurd (omega arith)
div_turn (suc k) m h = rw (sub-one, div-div-eq-div-mul, pow-succ')

pub div_none : (k m : ℕ) → k ≤ 0 → m / 10 ^ k ≡ m
div_none zero m h = div-one m
div_none (suc k) m h = absurd (omega arith)

-- the front of a list is as it was, and the rest is all written
pub put-done : (s s₀ t : List ℕ) (at k m : ℕ) → k ≤ 0 → take at s ≡ take at s₀ → t ≡ spell_digits k m (drop (at + k) s) → s ≡ take at s₀ ++ t
unfolding spell_digits
put-done s s₀ t at zero m h e f = rw (← e, f, add-zero) (sym (take-append-drop at s))
put-done s s₀ t at (suc k) m h e f = absurd (omega arith)

-- digits written in front of what stands from a place on
pub put-before : (s s₁ s₂ t : List ℕ) (at k v : ℕ) → at + k ≤ length s → s₁ ≡ take (at + k) s ++ t → s₂ ≡ take at s₁ ++ spell_digits k v (drop (at + k) s₁) → s₂ ≡ take at s ++ spell_digits k v t
put-before s s₁ s₂ t at k v n e f =
    let l : length (take (at + k) s) ≡ at + k = length-take-le (at + k) s n in
    let d : drop (at + k) s₁ ≡ t = rw e (drop_at (take (at + k) s) t (at + k) l) in
    let p : take at s₁ ≡ take at s = rw e (take-append-le at (take (at + k) s) t (omega arith) ∙ take-take at (at + k) s (omega arith)) in
    f ∙ rw (d, p)

-- a byte written in front of what stands from the next place on
pub set_before : (s s₁ t : List ℕ) (at x : ℕ) → at < length s → s₁ ≡ take (at + 1) s ++ t → set s₁ at x ≡ take at s ++ (x ∷ t)
set_before s s₁ t at x n e =
    let l : length (take (at + 1) s) ≡ suc at = length-take-le (at + 1) s (omega arith) ∙ omega arith in
    let l₁ : at < length s₁ = omega (arith, ap length e, length-append (take (at + 1) s) t) in
    let d : drop (suc at) s₁ ≡ t = rw e (drop_at (take (at + 1) s) t (suc at) l) in
    let p : take at s₁ ≡ take at s = rw e (take-append-le at (take (at + 1) s) t (omega arith) ∙ take-take at (at + 1) s (omega arith)) in
    set_split s₁ at x l₁ ∙ rw (d, p)

-- digits written at the end
pub put_last : (s s₁ : List ℕ) (at k v : ℕ) → length s ≡ at + k → s₁ ≡ take at s ++ spell_digits k v (drop (at + k) s) → s₁ ≡ take at s ++ spell_digits k v []
put_last s s₁ at k v n e = e ∙ rw (drop_of_length-le s {i = at + k} (omega arith))

-- a byte in the first column
pub put_first : (s t : List ℕ) (x : ℕ) → 1 ≤ length s → set (take 1 s ++ t) 0 x ≡ x ∷ t
put_first [] t x h = absurd (omega arith)
put_first (y ∷ s) t x h = refl

-- minus and digits
pub put-minus : (s s₁ : List ℕ) (m : ℕ) → 0 < length s → s₁ ≡ take 1 s ++ spell_digits (length s - 1) m (drop (1 + (length s - 1)) s) → set s₁ 0 45 ≡ 45 ∷ spell_digits (length s - 1) m []
put-minus s s₁ m h e = ap (λ (l : List ℕ). set l 0 45) (put_last s s₁ 1 (length s - 1) m (omega arith) e) ∙ put_first s (spell_digits (length s - 1) m []) 45 h
