-- A field whose spaces were taken off and that is padded again is the field as it was, over side and width.
use mathlib.Core.Path.{◌≡◌, refl, sym, ap, ◌∙◌}
use mathlib.Core.Bool.{Bool, true, false, cond, not, false≢true}
use mathlib.Core.List.{List, [], ◌∷◌, ◌++◌, append-nil}
use Prim.Native.Nat.{ℕ, zero, suc, ◌-◌, ◌≤◌}
use native.Mathlib.Omega.{arith}
use native.Mathlib.Nat.{sub_self, sub-zero}
use lib.Dec.{eqb}
use lib.ListN.{length, replicate}
use borrow.Author.Tests.{eqb-true}
use Rattle.columns.specs.Sets.{is}
use Rattle.columns.specs.Texts.{head, skip, blank, trimmed}
use Rattle.columns.proofs.TextLaws.{cond_case, skip-spaces, blank-spaces}
use Rattle.semicolons.specs.Fields.{trimmed_field, missing, padded_field}
use Rattle.semicolons.specs.declared.Side.{Side}
use Rattle.semicolons.specs.declared.Side.TheVariants as side

-- spaces are only taken off
pub skip_shorter : (p : List ℕ) → length (skip p) ≤ length p
unfolding skip
skip_shorter [] = omega arith
skip_shorter (c ∷ p) = cond_case (λ (l : List ℕ). length l ≤ suc (length p)) (eqb c 32) (λ e. omega (arith, skip_shorter p)) (λ e. omega arith)

pub trimmed_shorter : (p : List ℕ) → length (trimmed p) ≤ length p
unfolding trimmed
trimmed_shorter [] = omega arith
trimmed_shorter (c ∷ p) = cond_case (λ (l : List ℕ). length l ≤ suc (length p)) (blank (c ∷ p)) (λ e. omega arith) (λ e. omega (arith, trimmed_shorter p))

-- those that stood first, put back in front,
pub skip_pads : (p : List ℕ) → missing (length p) (skip p) ++ skip p ≡ p
unfolding skip
skip_pads [] = refl
skip_pads (c ∷ p) = by (eqb c 32) refl (skip_pads p) where
  by : (b : Bool) → eqb c 32 ≡ b → replicate (length p - length (skip p)) 32 ++ skip p ≡ p
      → replicate (suc (length p) - length (cond b (skip p) (c ∷ p))) 32 ++ cond b (skip p) (c ∷ p) ≡ c ∷ p
  by true e back =
      let n : suc (length p) - length (skip p) ≡ suc (length p - length (skip p)) = omega (arith, skip_shorter p) in
      rw n (ap (λ (l : List ℕ). 32 ∷ l) back ∙ ap (λ (x : ℕ). x ∷ p) (sym (eqb-true c 32 e)))
  by false e back = rw (sub_self (suc (length p)))

-- those that stood last, put back behind
pub trim_pads : (p : List ℕ) → trimmed p ++ missing (length p) (trimmed p) ≡ p
unfolding trimmed
trim_pads [] = refl
trim_pads (c ∷ p) = by (blank (c ∷ p)) refl (trim_pads p) where
  by : (b : Bool) → blank (c ∷ p) ≡ b → trimmed p ++ replicate (length p - length (trimmed p)) 32 ≡ p
      → cond b [] (c ∷ trimmed p) ++ replicate (suc (length p) - length (cond b [] (c ∷ trimmed p))) 32 ≡ c ∷ p
  by true e back = rw sub-zero (blank-spaces (c ∷ p) e)
  by false e back =
      let n : suc (length p) - suc (length (trimmed p)) ≡ length p - length (trimmed p) = omega arith in
      rw n (ap (λ (l : List ℕ). c ∷ l) back)

-- A field has its spaces on the side on which it is padded, if any at all.
abbrev pub Stands : Side → List ℕ → Type 0
Stands side.Left p = trimmed (skip p) ≡ skip p
Stands side.Right p = trimmed (skip p) ≡ trimmed p
Stands side.Kept p = Unit {0}

-- So it comes back.
pub pad_back : (s : Side) (w : ℕ) (p : List ℕ) → length p ≡ w → Stands s p → padded_field s w (trimmed_field s p) ≡ p
unfolding padded_field trimmed_field
pad_back side.Left w p n e = rw (e, ← n) (skip_pads p)
pad_back side.Right w p n e = rw (e, ← n) (trim_pads p)
pad_back side.Kept w p n e = rw (← n, sub_self (length p)) (append-nil p)

-- and goes out in no more bytes than it has columns
pub goes_out : (s : Side) (p : List ℕ) → length (trimmed_field s p) ≤ length p
unfolding trimmed_field
goes_out side.Left p = omega (arith, trimmed_shorter (skip p), skip_shorter p)
goes_out side.Right p = omega (arith, trimmed_shorter (skip p), skip_shorter p)
goes_out side.Kept p = omega arith

-- ---- which fields stand so

-- spaces alone,
spaces_off : (n : ℕ) → trimmed (replicate n 32) ≡ []
unfolding trimmed
spaces_off zero = refl
spaces_off (suc n) = rw (skip-spaces (suc n))

pub spaces_stand : (s : Side) (n : ℕ) → Stands s (replicate n 32)
spaces_stand side.Left n = rw (skip-spaces n) (spaces_off 0)
spaces_stand side.Right n = rw (skip-spaces n, spaces_off n) (spaces_off 0)
spaces_stand side.Kept n = tt

-- text that does not begin with a space,
no_skip : (p : List ℕ) → not (is " " (head p)) ≡ true → skip p ≡ p
unfolding skip
no_skip [] e = refl
no_skip (c ∷ p) e = by (is " " c) e where
  by : (b : Bool) → not b ≡ true → cond b (skip p) (c ∷ p) ≡ c ∷ p
  by true e = absurd (false≢true e)
  by false e = refl

pub head_stands : (p : List ℕ) → not (is " " (head p)) ≡ true → Stands side.Right p
head_stands p e = ap trimmed (no_skip p e)

-- and any single byte
pub one_stands : (c : ℕ) → Stands side.Right (c ∷ [])
one_stands c = by (is " " c) refl where
  by : (b : Bool) → is " " c ≡ b → Stands side.Right (c ∷ [])
  by true e = unfold trimmed skip in rw e
  by false e = head_stands (c ∷ []) (rw e)
