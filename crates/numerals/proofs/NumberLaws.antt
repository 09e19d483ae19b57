-- Digits at the front of a text, and what they say.
use mathlib.Core.Path.{◌≡◌, refl, sym, ap, ◌∙◌}
use mathlib.Core.Bool.{Bool, true, false, not, ◌&&◌}
use mathlib.Core.List.{List, [], ◌∷◌}
use Prim.Native.Nat.{ℕ, zero, suc, ◌+◌, ◌-◌, ◌*◌, ◌/◌, ◌^◌, ◌≤◌, ◌<◌}
use native.Mathlib.Omega.{arith}
use native.Mathlib.Decide.{dec_lt}
use native.Mathlib.Numerals.{add-one, sub-one}
use native.Mathlib.Nat.{zero-add, add-zero, add-suc, suc-add, pow-suc, pow-le-pow_right, one-le-pow}
use lib.Dec.{leb, ltb}
use lib.ListN.{length, get_or, take, drop, length-take, get_or-eq_default}
use lib.Seq.{drop-cons}
use borrow.Author.Tests.{leb-true, lt-ltb, le-ltb, ne_eqb}
use Rattle.columns.specs.Sets.{is_digit}
use Rattle.columns.specs.Texts.{head, tail, ended, skip, every, blank}
use Rattle.flaws.specs.Flaws.{unread}
use Rattle.flaws.specs.declared.Flaw.{Flaw}
use Rattle.numerals.specs.Numbers.{leading, number_from, number, whole_digits, amount, in_sign, has_minus, unsigned, number_of, whole_of}
use Rattle.columns.proofs.TextLaws.{and_split, cond_case, head_at, tail_at, at_end, not_at_end, every_take, every_drop, every_at}
use Rattle.std.specs.Prelude.{Option, Some, None, Result, Ok, Err, ℤ}
use Rattle.numerals.specs.declared.Unread.{Unread}

pub digit_range : (c : ℕ) → is_digit c ≡ true → (48 ≤ c) × (c ≤ 57)
digit_range c e = let h = and_split (leb 48 c) (leb c 57) e in (leb-true 48 c h.0, leb-true c 57 h.1)

-- a digit is not past the end
pub digit_below : (s : List ℕ) (i : ℕ) → is_digit (get_or s i 0) ≡ true → i < length s
digit_below s i e =
    elim (dec_lt i (length s)) [ yes h ↦ h | no h ↦ omega (arith, (digit_range (get_or s i 0) e).0, get_or-eq_default s 0 {n = i} (omega arith)) ]

pub leading_digit : (s : List ℕ) (i k : ℕ) → 0 < k → is_digit (get_or s i 0) ≡ true → leading k (drop i s) ≡ get_or s i 0 ∷ leading (k - 1) (drop (i + 1) s)
unfolding leading
leading_digit s i zero h e = absurd (omega arith)
leading_digit s i (suc k) h e = rw (sub-one, head_at s i, tail_at s i, e)

pub leading_other : (s : List ℕ) (i k : ℕ) → is_digit (get_or s i 0) ≡ false → leading k (drop i s) ≡ []
unfolding leading
leading_other s i zero e = refl
leading_other s i (suc k) e = rw (head_at s i, e)

pub leading-none : (k : ℕ) (t : List ℕ) → k ≤ 0 → leading k t ≡ []
unfolding leading
leading-none zero t h = refl
leading-none (suc k) t h = absurd (omega arith)

-- one more digit has room, while there are places left
room : (k v : ℕ) → 0 < k → k ≤ 18 → v < 10 ^ (18 - k) → (v * 10 + 9 < 10 ^ (18 - (k - 1))) × (10 ^ (18 - (k - 1)) ≤ 10 ^ 18)
room k v h l b =
    let e : 18 - (k - 1) ≡ suc (18 - k) = omega arith in
    rw e (omega (arith, pow-suc 10 (18 - k)), pow-le-pow_right {n = 10} (omega arith) {i = suc (18 - k)} {j = 18} (omega arith))

-- a turn at a byte c that is a digit, with k places left
pub record Turn (s : List ℕ) (i k v c : ℕ) : Type 0 where
  pub inside : i < length s
  pub low : 48 ≤ c
  pub high : c ≤ 57
  pub below : v * 10 + 9 < 10 ^ (18 - (k - 1))
  pub most : 10 ^ (18 - (k - 1)) ≤ 10 ^ 18
  pub counted : i + length (leading k (drop i s)) ≡ i + 1 + length (leading (k - 1) (drop (i + 1) s))
  pub said : number_from v (leading k (drop i s)) ≡ number_from (v * 10 + (c - 48)) (leading (k - 1) (drop (i + 1) s))

pub turn : (s : List ℕ) (i k v c : ℕ) → 0 < k → k ≤ 18 → v < 10 ^ (18 - k) → c ≡ get_or s i 0 → is_digit c ≡ true → Turn s i k v c
unfolding number_from
turn s i k v c more few small at e =
    let e' : is_digit (get_or s i 0) ≡ true = rw at at e in
    let l = leading_digit s i k more e' in
    let r = room k v more few small in
    let d = digit_range c e in
    record {
      inside = digit_below s i e';
      low = d.0;
      high = d.1;
      below = r.0;
      most = r.1;
      counted = rw l (omega arith);
      said = rw (l, at);
    }

-- there are no more digits than places, nor than bytes
pub leading_few : (k : ℕ) (t : List ℕ) → length (leading k t) ≤ k
unfolding leading
leading_few zero t = omega arith
leading_few (suc k) t =
    cond_case (λ (l : List ℕ). length l ≤ suc k) (is_digit (head t)) (λ e. omega (arith, leading_few k (tail t))) (λ e. omega arith)

pub leading_inside : (k : ℕ) (t : List ℕ) → length (leading k t) ≤ length t
unfolding leading
leading_inside zero t = omega arith
leading_inside (suc k) [] = omega arith
leading_inside (suc k) (c ∷ t) =
    cond_case (λ (l : List ℕ). length l ≤ suc (length t)) (is_digit c) (λ e. omega (arith, leading_inside k t)) (λ e. omega arith)

-- they are digits
pub leading_digits : (k : ℕ) (t : List ℕ) → every is_digit (leading k t) ≡ true
unfolding leading every
leading_digits zero t = refl
leading_digits (suc k) t =
    cond_case (λ (l : List ℕ). every is_digit l ≡ true) (is_digit (head t)) (λ e. rw e (leading_digits k (tail t))) (λ e. refl)

-- what digits say is below the power of their number
pub number_below : (v m : ℕ) (xs : List ℕ) → every is_digit xs ≡ true → v < 10 ^ m → number_from v xs < 10 ^ (m + length xs)
unfolding number_from every
number_below v m [] e h = rw add-zero h
number_below v m (c ∷ xs) e h =
    let d = and_split (is_digit c) (every is_digit xs) e in
    let r = digit_range c d.0 in
    rw (add-suc, ← suc-add) (number_below (v * 10 + (c - 48)) (suc m) xs d.1 (omega (arith, pow-suc 10 m)))

-- and so is what the digits at the front say
pub leading_below : (v m k : ℕ) (t : List ℕ) → v < 10 ^ m → number_from v (leading k t) < 10 ^ (m + k)
leading_below v m k t h =
    let n = number_below v m (leading k t) (leading_digits k t) h in
    omega (arith, pow-le-pow_right {n = 10} (omega arith) {i = m + length (leading k t)} {j = m + k} (omega (arith, leading_few k t)))

pub front_below : (k : ℕ) (t : List ℕ) → number_from 0 (leading k t) < 10 ^ k
front_below k t = rw (zero-add k) at (leading_below 0 0 k t (omega arith))

-- a whole number has at most eighteen digits
pub whole_small : (t : List ℕ) → amount (whole_digits t) < 10 ^ 18
unfolding whole_digits
whole_small t =
    cond_case (λ (w : Result (Option ℕ) Unread). amount w < 10 ^ 18) (not (ended (leading 18 t)) && ended (drop (length (leading 18 t)) t))
    (λ e. front_below 18 t) (λ e. omega arith)

-- a number with a sign, over what its digits say: blank where nothing follows the spaces,
pub number-blank : (sign : Bool) (S : ℕ → Bool) (d : List ℕ → Result (Option ℕ) Unread) (s : List ℕ) (i : ℕ) → skip s ≡ drop i s → i ≡ length s → (Ok None) ≡ number_of sign S d s
number-blank sign S d s i e h = rw (e, at_end s i h)

-- and else what the digits after the sign say
pub number_read : (sign : Bool) (S : ℕ → Bool) (d : List ℕ → Result (Option ℕ) Unread) (s : List ℕ) (i : ℕ) {t u : List ℕ} {minus : Bool} {w : Result (Option ℕ) Unread} {r : Result (Option ℤ) Flaw}
    → skip s ≡ drop i s → i ≤ length s → (i ≡ length s → ⊥) → t ≡ drop i s → minus ≡ has_minus sign t → u ≡ unsigned sign t → w ≡ d u → r ≡ in_sign (unread S s) minus w
    → r ≡ number_of sign S d s
number_read sign S d s i e l n at m f g h = rw (e, not_at_end s i l n, ← at, ← m, ← f, ← g) h

-- what is bad carries the flaw of its field
abbrev pub Carries : Flaw → Result (Option ℤ) Flaw → Type 0
Carries wrong (Err x) = x ≡ wrong
Carries wrong (Ok None) = Unit {0}
Carries wrong (Ok (Some z)) = Unit {0}

pub number_carries : (sign : Bool) (S : ℕ → Bool) (d : List ℕ → Result (Option ℕ) Unread) (p : List ℕ) → Carries (unread S p) (number_of sign S d p)
number_carries sign S d p =
    cond_case (Carries (unread S p)) (ended (skip p)) (λ e. tt) (λ e. by (unread S p) (has_minus sign (skip p)) (d (unsigned sign (skip p)))) where
      by : (wrong : Flaw) (minus : Bool) (w : Result (Option ℕ) Unread) → Carries wrong (in_sign wrong minus w)
      by wrong minus (Err bad) = refl
      by wrong minus (Ok None) = refl
      by wrong minus (Ok (Some v)) = tt

-- a number has k digits where it has k - 1 without its last
pub fits_turn : (k v : ℕ) → 0 < k → ltb v (10 ^ k) ≡ ltb (v / 10) (10 ^ (k - 1))
fits_turn zero v h = absurd (omega arith)
fits_turn (suc k) v h =
    rw sub-one
    (elim (dec_lt v (10 ^ suc k)) [
      | yes l ↦ lt-ltb v (10 ^ suc k) l ∙ sym (lt-ltb (v / 10) (10 ^ k) (omega (arith, pow-suc 10 k)))
      | no l ↦ le-ltb v (10 ^ suc k) (omega arith) ∙ sym (le-ltb (v / 10) (10 ^ k) (omega (arith, pow-suc 10 k)))
    ])

-- zero has its places anywhere
pub fits_zero : (k v : ℕ) → v ≡ 0 → ltb v (10 ^ k) ≡ true
fits_zero k v e = rw e (lt-ltb 0 (10 ^ k) (one-le-pow k 10 (omega arith)))

-- digits that are no more than the places are all at the front
pub leading_all : (k : ℕ) (p : List ℕ) → every is_digit p ≡ true → length p ≤ k → leading k p ≡ p
unfolding leading every
leading_all zero [] e h = refl
leading_all zero (c ∷ p) e h = absurd (omega arith)
leading_all (suc k) [] e h = refl
leading_all (suc k) (c ∷ p) e h =
    let d = and_split (is_digit c) (every is_digit p) e in
    rw d.0 (ap (λ (l : List ℕ). c ∷ l) (leading_all k p d.1 (omega arith)))

-- k digits say less than the k-th power
pub digits_below : (k : ℕ) (p : List ℕ) → every is_digit p ≡ true → length p ≤ k → number_from 0 p < 10 ^ k
digits_below k p e h = rw (leading_all k p e h) at (front_below k p)

-- n digits from i on are digits, and say less than the n-th power
pub digits_part : (n i : ℕ) (s : List ℕ) → every is_digit s ≡ true → (length (take n (drop i s)) ≤ n) × (every is_digit (take n (drop i s)) ≡ true)
digits_part n i s e = (simp length-take (omega arith), every_take is_digit n (drop i s) (every_drop is_digit i s e))

pub part_below : (n i : ℕ) (s : List ℕ) → every is_digit s ≡ true → number_from 0 (take n (drop i s)) < 10 ^ n
part_below n i s e = let d = digits_part n i s e in digits_below n (take n (drop i s)) d.1 d.0

-- a whole number that columns say has at most eighteen digits
pub amount_small : (p : List ℕ) → amount (whole_of p) < 10 ^ 18
unfolding whole_of
amount_small p = cond_case (λ (w : Result (Option ℕ) Unread). amount w < 10 ^ 18) (blank p) (λ e. omega arith) (λ e. whole_small (skip p))

-- digits in every column are a whole number
pub whole_plain : (p : List ℕ) → every is_digit p ≡ true → 0 < length p → length p ≤ 18 → whole_of p ≡ Ok (Some (number p))
unfolding whole_of whole_digits every skip
whole_plain [] e h l = absurd (omega arith)
whole_plain (c ∷ p) e h l =
    let low = (digit_range c (and_split (is_digit c) (every is_digit p) e).0).0 in
    rw (ne_eqb c 32 (λ q. omega arith), leading_all 18 (c ∷ p) e l, at_end (c ∷ p) (length (c ∷ p)) refl)

-- a turn at place i of digits, read onto what those before it say
pub record Said (p : List ℕ) (i v : ℕ) : Type 0 where
  pub low : 48 ≤ get_or p i 0
  pub high : get_or p i 0 ≤ 57
  pub below : v * 10 + 9 < 10 ^ (i + 1)
  pub most : 10 ^ (i + 1) ≤ 10 ^ 18
  pub said : number_from v (drop i p) ≡ number_from (v * 10 + (get_or p i 0 - 48)) (drop (i + 1) p)

pub said_turn : (p : List ℕ) (i v : ℕ) → every is_digit p ≡ true → length p ≤ 18 → i < length p → v < 10 ^ i → Said p i v
unfolding number_from
said_turn p i v e l h b =
    let d = digit_range (get_or p i 0) (every_at is_digit p i e h) in
    record {
      low = d.0;
      high = d.1;
      below = rw (add-one i) (omega (arith, pow-suc 10 i));
      most = pow-le-pow_right {n = 10} (omega arith) {i = i + 1} {j = 18} (omega arith);
      said = rw (add-one i, drop-cons p i 0 h);
    }

-- digits read onto a number make it no less,
pub number_grows : (v : ℕ) (xs : List ℕ) → v ≤ number_from v xs
unfolding number_from
number_grows v [] = omega arith
number_grows v (c ∷ xs) = omega (arith, number_grows (v * 10 + (c - 48)) xs)

-- and one above 0 makes it more than zero
pub number_above : (v : ℕ) (xs : List ℕ) (i : ℕ) → 48 < get_or xs i 0 → 0 < number_from v xs
unfolding number_from
number_above v [] i h = absurd (omega arith)
number_above v (c ∷ xs) zero h = omega (arith, number_grows (v * 10 + (c - 48)) xs)
number_above v (c ∷ xs) (suc i) h = number_above (v * 10 + (c - 48)) xs i h
