-- What is spelled is read back: digits, whole numbers with a sign and without, decimals over both digit counts.
use mathlib.Core.Path.{◌≡◌, refl, sym, ap, ◌∙◌}
use mathlib.Core.Bool.{Bool, true, false, and-false}
use mathlib.Core.List.{List, [], ◌∷◌, ◌++◌, append_assoc}
use Prim.Native.Nat.{ℕ, zero, suc, ◌+◌, ◌-◌, ◌*◌, ◌/◌, ◌%◌, ◌^◌, ◌≤◌, ◌<◌}
use native.Mathlib.Omega.{arith}
use native.Mathlib.Nat.{add-zero, zero-add, mul_assoc, mul-one, zero-mul, mod-one, pow-suc, one-le-pow, mod-eq_of_lt}
use lib.Dec.{ltb}
use lib.Arith.{mod-mul}
use lib.ListN.{length}
use lib.IntN.{ℤ, pos, negsuc}
use borrow.Author.Tests.{ne_eqb, le-leb, ltb-true}
use Rattle.columns.specs.Sets.{among, is_digit}
use Rattle.columns.specs.Texts.{head, ended, skip, every}
use Rattle.numerals.specs.Numbers.{leading, number_from, whole_digits, whole_of, with_sign, unsigned, admits_whole, number_of, signed_of, spell_digits, spell_whole, spell_signed, signed_fits}
use Rattle.columns.proofs.TextLaws.{and_split, at_end}
use Rattle.numerals.proofs.NumberLaws.{digit_range, leading_all}
use Rattle.std.specs.Prelude.{Option, Some, Result, Ok}
use Rattle.numerals.specs.declared.Unread.{Unread}

-- a spelled digit is a digit
pub digit_is : (m : ℕ) → is_digit (48 + m % 10) ≡ true
digit_is m = rw (le-leb 48 (48 + m % 10) (omega arith)) (le-leb (48 + m % 10) 57 (omega arith))

-- digits that are spelled in front of a text
pub spelled_front : (k m : ℕ) (t : List ℕ) → spell_digits k m t ≡ spell_digits k m [] ++ t
unfolding spell_digits
spelled_front zero m t = refl
spelled_front (suc k) m t =
    let d = 48 + m % 10 in
    spelled_front k (m / 10) (d ∷ t) ∙ sym (append_assoc (spell_digits k (m / 10) []) (d ∷ []) t) ∙ ap (λ (l : List ℕ). l ++ t) (sym (spelled_front k (m / 10) (d ∷ [])))

-- are digits,
pub spelled_digits : (k m : ℕ) (t : List ℕ) → every is_digit t ≡ true → every is_digit (spell_digits k m t) ≡ true
unfolding spell_digits every
spelled_digits zero m t e = e
spelled_digits (suc k) m t e = spelled_digits k (m / 10) ((48 + m % 10) ∷ t) (rw (digit_is m) e)

-- as many as were asked for,
pub spelled_length : (k m : ℕ) (t : List ℕ) → length (spell_digits k m t) ≡ k + length t
unfolding spell_digits
spelled_length zero m t = sym (zero-add (length t))
spelled_length (suc k) m t = spelled_length k (m / 10) ((48 + m % 10) ∷ t) ∙ omega arith

-- and say the last digits of the number
pub spelled_number : (k v m : ℕ) (t : List ℕ) → number_from v (spell_digits k m t) ≡ number_from (v * 10 ^ k + m % 10 ^ k) t
unfolding spell_digits number_from
spelled_number zero v m t = simp (mul-one, mod-one, add-zero)
spelled_number (suc k) v m t =
    let p = 10 ^ k in
    let e : (v * p + m / 10 % p) * 10 + (48 + m % 10 - 48) ≡ v * 10 ^ suc k + m % 10 ^ suc k =
    rw (pow-suc 10 k, mod-mul m {m = p} {c = 10} (one-le-pow k 10 (omega arith)) (omega arith), ← mul_assoc v p 10) (omega arith) in
    spelled_number k v (m / 10) ((48 + m % 10) ∷ t) ∙ rw e

-- k digits say the number, where it has no more
pub spelled_says : (k v m : ℕ) → m < 10 ^ k → number_from v (spell_whole k m) ≡ v * 10 ^ k + m
unfolding number_from
spelled_says k v m h = spelled_number k v m [] ∙ rw (mod-eq_of_lt h)

-- a run of digits in front of a text is read whole
pub front : (p t : List ℕ) → every is_digit p ≡ true → leading (length p) (p ++ t) ≡ p
unfolding leading every
front [] t e = refl
front (c ∷ p) t e =
    let d = and_split (is_digit c) (every is_digit p) e in
    rw d.0 (ap (λ (l : List ℕ). c ∷ l) (front p t d.1))

-- a text that begins with no space has none to skip
skip-none : (t : List ℕ) → 33 ≤ head t → skip t ≡ t
unfolding skip
skip-none [] h = refl
skip-none (c ∷ t) h = rw (ne_eqb c 32 (λ e. omega arith))

-- what is spelled begins with a digit
begins : (k m : ℕ) (t : List ℕ) → 1 ≤ k → is_digit (head (spell_digits k m t)) ≡ true
unfolding spell_digits
begins zero m t h = absurd (omega arith)
begins (suc zero) m t h = digit_is m
begins (suc (suc k)) m t h = begins (suc k) (m / 10) ((48 + m % 10) ∷ t) (omega arith)

pub begins_high : (k m : ℕ) (t : List ℕ) → 1 ≤ k → 48 ≤ head (spell_digits k m t)
begins_high k m t h = (digit_range (head (spell_digits k m t)) (begins k m t h)).0

pub not-ended : (k m : ℕ) (t : List ℕ) → 1 ≤ k → ended (spell_digits k m t) ≡ false
unfolding spell_digits
not-ended zero m t h = absurd (omega arith)
not-ended (suc zero) m t h = refl
not-ended (suc (suc k)) m t h = not-ended (suc k) (m / 10) ((48 + m % 10) ∷ t) (omega arith)

-- whole numbers
whole_digits_trip : (k v : ℕ) → 1 ≤ k → k ≤ 18 → v < 10 ^ k → whole_digits (spell_whole k v) ≡ Ok (Some v)
unfolding whole_digits
whole_digits_trip k v one few h =
    let p = spell_whole k v in
    let n : length p ≡ k = spelled_length k v [] ∙ omega arith in
    let all : leading 18 p ≡ p = leading_all 18 p (spelled_digits k v [] (unfold every in refl)) (omega arith) in
    rw (all, not-ended k v [] one, at_end p (length p) refl, spelled_says k 0 v h) (ap (λ (n : ℕ). Ok (Some n)) (simp (zero-mul, zero-add)))

pub whole_trip : (k v : ℕ) → 1 ≤ k → k ≤ 18 → v < 10 ^ k → whole_of (spell_whole k v) ≡ Ok (Some v)
unfolding whole_of
whole_trip k v one few h =
    let s : skip (spell_whole k v) ≡ spell_whole k v = skip-none (spell_whole k v) (omega (arith, begins_high k v [] one)) in
    rw (s, not-ended k v [] one) (whole_digits_trip k v one few h)

-- a number whose text t begins with no sign, behind its spaces, over what its digits say
pub plain_trip : (sign : Bool) (S : ℕ → Bool) (d : List ℕ → Result (Option ℕ) Unread) (p t : List ℕ) (v : ℕ) → skip p ≡ skip t → ended t ≡ false → 46 ≤ head t → d t ≡ Ok (Some v) → number_of sign S d p ≡ Ok (Some (pos v))
unfolding unsigned among
plain_trip sign S d p t v k e h f =
    rw (k, skip-none t (omega arith), e, ne_eqb (head t) 45 (λ q. omega arith), ne_eqb (head t) 43 (λ q. omega arith), and-false sign, f)

-- and one that begins with minus
pub minus_trip : (S : ℕ → Bool) (d : List ℕ → Result (Option ℕ) Unread) (t : List ℕ) (v : ℕ) → d t ≡ Ok (Some v) → number_of true S d (45 ∷ t) ≡ Ok (Some (with_sign true v))
unfolding unsigned among skip
minus_trip S d t v f = rw f

-- whole numbers with a sign
pub signed_trip : (w : ℕ) (z : ℤ) → w ≤ 18 → signed_fits w z ≡ true → signed_of (spell_signed w z) ≡ Ok (Some z)
unfolding signed_of spell_signed signed_fits
signed_trip w (pos n) few e =
    let f = and_split (ltb 0 w) (ltb n (10 ^ w)) e in
    let one : 1 ≤ w = ltb-true 0 w f.0 in
    plain_trip true (admits_whole true) whole_digits (spell_whole w n) (spell_whole w n) n refl (not-ended w n [] one) (omega (arith, begins_high w n [] one)) (whole_digits_trip w n one few (ltb-true n (10 ^ w) f.1))
signed_trip w (negsuc n) few e =
    let f = and_split (ltb 0 w) (ltb (suc n) (10 ^ (w - 1))) e in
    let h : suc n < 10 ^ (w - 1) = ltb-true (suc n) (10 ^ (w - 1)) f.1 in
    minus_trip (admits_whole true) whole_digits (spell_whole (w - 1) (suc n)) (suc n) (whole_digits_trip (w - 1) (suc n) (two (w - 1) n h) (omega arith) h) where
      two : (k n : ℕ) → suc n < 10 ^ k → 1 ≤ k
      two zero n h = absurd (omega arith)
      two (suc k) n h = omega arith
