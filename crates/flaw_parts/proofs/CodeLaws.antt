-- The flaw of a code, code by code: that of its field, and between fields above them; and of a table in groups.
use mathlib.Core.Path.{◌≡◌, refl, sym, ap, ◌∙◌}
use mathlib.Core.Logic.{◌⊎◌, inl, inr}
use mathlib.Core.Bool.{Bool, true, false, cond, not, ◌&&◌}
use mathlib.Core.List.{List, [], ◌∷◌, ◌++◌}
use Prim.Native.Nat.{ℕ, zero, suc, ◌+◌, ◌-◌, ◌≤◌, ◌<◌}
use native.Mathlib.Omega.{arith}
use lib.Arith.{lt_of_le-ne}
use lib.Dec.{leb}
use lib.ListN.{length, get_or, take, drop, length-append, get_or-eq_default}
use lib.Seq.{drop-cons}
use borrow.Author.Tests.{le-leb, lt-leb, leb-true, leb-false}
use Rattle.columns.specs.Texts.{every, each, byte_good}
use Rattle.flaw_parts.specs.Parts.{plain, flaw_in, flaw_with}
use Rattle.flaws.specs.declared.Flaw.{Flaw}
use Rattle.flaws.specs.declared.Flaw.TheVariants as flaw

-- a code that is another is passed
pub past : (k c : ℕ) → k ≤ c → (c ≡ k → ⊥) → suc k ≤ c
past k c l n = lt_of_le-ne l (λ e. n (sym e))

-- a code that is known
pub coded : (F : ℕ → Flaw) (c k : ℕ) (x : Flaw) → c ≡ k → x ≡ F k → x ≡ F c
coded F c k x e q = q ∙ ap F (sym e)

-- above the fields
pub beyond : (flaws : List Flaw) (c : ℕ) → length flaws < c → flaw.Between ≡ flaw_with flaws c
beyond flaws zero h = absurd (omega arith)
beyond flaws (suc i) h = rw (lt-leb (suc i) (length flaws) h)

-- a field of one byte
one_byte_lem : (b : Bool) → cond b flaw.None flaw.Byte ≡ cond (not (b && true)) flaw.Byte (cond ((b && true) && false) flaw.Range (cond (not (b && true)) flaw.Shape flaw.None))
one_byte_lem true = refl
one_byte_lem false = refl

pub byte_alone : (set : ℕ → Bool) (before : List ℕ) (c : ℕ) → cond (set c) flaw.None flaw.Byte ≡ flaw_in (plain set (byte_good set)) before (c ∷ [])
unfolding every byte_good each
byte_alone set before c = one_byte_lem (set c)

pub byte_there : (set : ℕ → Bool) (before r : List ℕ) (i : ℕ) → i < length r → cond (set (get_or r i 0)) flaw.None flaw.Byte ≡ flaw_in (plain set (byte_good set)) before (take 1 (drop i r))
byte_there set before r i h = rw (drop-cons r i 0 h) (byte_alone set before (get_or r i 0))

-- ---- the flaws of a table in groups

behind : (before l : List Flaw) (i : ℕ) (d : Flaw) → length before ≤ i → get_or (before ++ l) i d ≡ get_or l (i - length before) d
behind [] l i d h = let e : i ≡ i - 0 = omega arith in ap (λ (j : ℕ). get_or l j d) e
behind (x ∷ xs) l zero d h = absurd (omega arith)
behind (x ∷ xs) l (suc i) d h = let e : i - length xs ≡ suc i - suc (length xs) = omega arith in behind xs l i d (omega arith) ∙ ap (λ (j : ℕ). get_or l j d) e

in_front : (xs after : List Flaw) (i : ℕ) (d e : Flaw) → i < length xs → get_or (xs ++ after) i d ≡ get_or xs i e
in_front [] after i d e h = absurd (omega arith)
in_front (x ∷ xs) after zero d e h = refl
in_front (x ∷ xs) after (suc i) d e h = in_front xs after i d e (omega arith)

any_default : (xs : List Flaw) (i : ℕ) (d e : Flaw) → i < length xs → get_or xs i d ≡ get_or xs i e
any_default [] i d e h = absurd (omega arith)
any_default (x ∷ xs) zero d e h = refl
any_default (x ∷ xs) (suc i) d e h = any_default xs i d e (omega arith)

-- a code of one group's fields
pub of_group : (before xs after : List Flaw) (c : ℕ) → length before < c → c ≤ length before + length xs → get_or xs (c - suc (length before)) flaw.Between ≡ flaw_with (before ++ (xs ++ after)) c
of_group before xs after zero l h = absurd (omega arith)
of_group before xs after (suc i) l h =
    let n : length (before ++ (xs ++ after)) ≡ length before + (length xs + length after) = length-append before (xs ++ after) ∙ ap (λ (m : ℕ). length before + m) (length-append xs after) in
    let j : suc i - suc (length before) ≡ i - length before = omega arith in
    rw (le-leb (suc i) (length (before ++ (xs ++ after))) (omega (arith, n)), j)
    (sym (behind before (xs ++ after) i flaw.None (omega arith) ∙ in_front xs after (i - length before) flaw.None flaw.Between (omega arith)))

-- a code of the last group's fields, or one above
pub of_last : (before xs : List Flaw) (c : ℕ) → length before < c → get_or xs (c - suc (length before)) flaw.Between ≡ flaw_with (before ++ xs) c
of_last before xs zero l = absurd (omega arith)
of_last before xs (suc i) l = let j : suc i - suc (length before) ≡ i - length before = omega arith in rw j (by (leb (suc i) (length (before ++ xs))) refl) where
  n : length (before ++ xs) ≡ length before + length xs
  n = length-append before xs

  by : (b : Bool) → leb (suc i) (length (before ++ xs)) ≡ b → get_or xs (i - length before) flaw.Between ≡ cond b (get_or (before ++ xs) i flaw.None) flaw.Between
  by true e = sym (behind before xs i flaw.None (omega arith) ∙ any_default xs (i - length before) flaw.None flaw.Between (omega (arith, n, leb-true (suc i) (length (before ++ xs)) e)))
  by false e = get_or-eq_default xs flaw.Between (omega (arith, n, leb-false (suc i) (length (before ++ xs)) e))
