-- A test on every byte of a text whose trailing spaces are off, where the test refuses the space.
use mathlib.Core.Path.{◌≡◌, refl, sym, ap, ◌∙◌}
use mathlib.Core.Bool.{Bool, true, false, cond, not, ◌&&◌, and-true}
use mathlib.Core.List.{List, [], ◌∷◌}
use Prim.Native.Nat.{ℕ}
use borrow.Author.Tests.{eqb-true}
use Rattle.columns.specs.Sets.{is}
use Rattle.columns.specs.Texts.{ended, skip, blank, trimmed, every}

-- a text is blank where its first byte is a space and the rest is blank
pub blank_cons : (c : ℕ) (t : List ℕ) → blank (c ∷ t) ≡ (is " " c && blank t)
unfolding skip
blank_cons c t = by (is " " c) where
  by : (b : Bool) → ended (cond b (skip t) (c ∷ t)) ≡ (b && ended (skip t))
  by true = refl
  by false = refl

-- so blank is a test on every byte
pub blank-every : (p : List ℕ) → blank p ≡ every (is " ") p
unfolding every
blank-every [] = unfold skip in refl
blank-every (c ∷ p) = blank_cons c p ∙ ap (λ (b : Bool). is " " c && b) (blank-every p)

-- a text of one byte is blank where it is a space
pub blank_one : (c : ℕ) → blank (c ∷ []) ≡ is " " c
unfolding skip
blank_one c = blank_cons c [] ∙ and-true (is " " c)

module _ (test : ℕ → Bool) (no-space : test 32 ≡ false) where
  -- a byte that fails may stand only where all is blank
  shut : (b : Bool) (c : ℕ) (t : List ℕ) → test c ≡ false → every test (cond b [] (c ∷ t)) ≡ b
  unfolding every
  shut true c t e = refl
  shut false c t e = rw e

  -- at a space the rest has to be blank, else the byte passes and so does the rest
  pub trimmed_cons : (c : ℕ) (t : List ℕ) → every test (trimmed (c ∷ t)) ≡ cond (is " " c) (blank t) (test c && every test (trimmed t))
  unfolding trimmed every
  trimmed_cons c t = rw (blank_cons c t) (by (is " " c) refl) where
    by : (b : Bool) → is " " c ≡ b → every test (cond (b && blank t) [] (c ∷ trimmed t)) ≡ cond b (blank t) (test c && every test (trimmed t))
    by true e = shut (blank t) c (trimmed t) (ap test (eqb-true c 32 e) ∙ no-space)
    by false e = refl

  -- of one byte, a space is off
  pub trimmed_one : (c : ℕ) → every test (trimmed (c ∷ [])) ≡ cond (is " " c) true (test c)
  unfolding trimmed every skip
  trimmed_one c = trimmed_cons c [] ∙ ap (λ (b : Bool). cond (is " " c) true b) (and-true (test c))

  -- a text that is not blank begins with a byte that passes
  pub filled_cons : (c : ℕ) (t : List ℕ) → (not (blank (c ∷ t)) && every test (trimmed (c ∷ t))) ≡ (test c && every test (trimmed t))
  filled_cons c t = rw (trimmed_cons c t, blank_cons c t) (by (is " " c) refl) where
    apart : (b : Bool) → (not b && b) ≡ false
    apart true = refl
    apart false = refl

    by : (b : Bool) → is " " c ≡ b → (not (b && blank t) && cond b (blank t) (test c && every test (trimmed t))) ≡ (test c && every test (trimmed t))
    by true e = apart (blank t) ∙ sym (ap (λ (x : Bool). x && every test (trimmed t)) (ap test (eqb-true c 32 e) ∙ no-space))
    by false e = refl
