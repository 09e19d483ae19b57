-- A decimal that is read, and reaches from its first column to its last with the point in its place, has a digit in every other.
use mathlib.Core.Path.{◌≡◌, refl, sym, ap, ◌∙◌}
use mathlib.Core.Logic.{◌⊎◌, inl, inr, ⊎_elim}
use mathlib.Core.Bool.{Bool, true, false, not, ◌&&◌, false≢true, true≢false}
use mathlib.Core.List.{List, [], ◌∷◌}
use Prim.Native.Nat.{ℕ, zero, suc, ◌+◌, ◌-◌, ◌*◌, ◌^◌, ◌≤◌, ◌<◌}
use native.Mathlib.Omega.{arith}
use native.Mathlib.Decide.{dec_lt}
use lib.Dec.{eqb}
use native.Mathlib.Nat.{zero-add, add-zero, add_assoc, mul-one, pow-succ', add-mul, mul_assoc}
use lib.ListN.{length, get_or, take, drop, length-drop, length-take, get_or-replicate}
use lib.Seq.{take_all, length-take-le, get_or-drop}
use borrow.Author.Tests.{ne_eqb}
use Rattle.columns.specs.Sets.{is, is_digit}
use Rattle.columns.specs.Texts.{head, tail, ended, skip, blank, every}
use Rattle.columns.proofs.TextLaws.{and_split, tail_at, skip_other, blank-spaces, ended-length, every_take}
use Rattle.flaws.specs.declared.Flaw.{Flaw}
use Rattle.numerals.specs.Numbers.{leading, number, number_from, whole_filled, amount, passes, in_sign, has_minus, unsigned}
use Rattle.numerals.proofs.NumberLaws.{leading_few, digits_below}
use Rattle.decimals.specs.Decimals.{fraction_of, magnitude_of, decimal_of}
use Rattle.decimals.proofs.DecimalPlain.{plain-decimal}
use Rattle.frequencies.specs.Frequencies.{above_zero, amount_good, unit_of, frequency_of}
use Rattle.frequency_values.specs.Full.{ReachesThrough}
use Rattle.std.specs.Prelude.{Some, Option, None, Result, Ok, Err}
use Rattle.numerals.specs.declared.Unread.{Unread}
use Rattle.numerals.specs.Numbers.{no_whole}

-- what is bad is not filled
bad-filled : {w : ℕ} → no_whole ≡ Ok (Some w) → ⊥
bad-filled e = absurd (true≢false (ap whole_filled (sym e)))

-- Where digits at the front fill their places, the places hold digits.
all_leading : (k : ℕ) (t : List ℕ) → length (leading k t) ≡ k → every is_digit (take k t) ≡ true
unfolding leading every
all_leading zero t h = refl
all_leading (suc k) [] h = absurd (omega arith)
all_leading (suc k) (c ∷ t) h = by (is_digit c) refl (all_leading k t)
  where
    by : (b : Bool) → is_digit c ≡ b → (length (leading k t) ≡ k → every is_digit (take k t) ≡ true) → (is_digit c && every is_digit (take k t)) ≡ true
    by true e more = rw e (more (omega (arith, rw e at h)))
    by false e more = absurd (omega (arith, rw e at h))

-- A blank text has spaces alone.
blank_at : (t : List ℕ) (j : ℕ) → blank t ≡ true → j < length t → get_or t j 0 ≡ 32
blank_at t j e h = ap (λ (l : List ℕ). get_or l j 0) (sym (blank-spaces t e)) ∙ get_or-replicate (length t) j 32 0 h

-- One of k digits at the front, or a space.
abbrev DigitOrSpace : ℕ → List ℕ → ℕ → Type 0
DigitOrSpace k t j = ((is_digit (get_or t j 0) ≡ true) × (j < length (leading k t))) ⊎ (get_or t j 0 ≡ 32)

-- Where only spaces stand behind digits, each byte is one of those.
digit_or_space : (k : ℕ) (t : List ℕ) (j : ℕ) → blank (drop (length (leading k t)) t) ≡ true → j < length t → DigitOrSpace k t j
unfolding leading
digit_or_space zero t j e h = inr (blank_at t j e h)
digit_or_space (suc k) [] j e h = absurd (omega arith)
digit_or_space (suc k) (c ∷ t) zero e h = by (is_digit c) refl
  where
    by : (b : Bool) → is_digit c ≡ b → DigitOrSpace (suc k) (c ∷ t) zero
    by true f = inl (f, rw f (omega arith))
    by false f = inr (blank_at (c ∷ t) zero (rw f at e) h)
digit_or_space (suc k) (c ∷ t) (suc i) e h = by (is_digit c) refl (digit_or_space k t i)
  where
    by : (b : Bool) → is_digit c ≡ b → (blank (drop (length (leading k t)) t) ≡ true → i < length t → DigitOrSpace k t i) → DigitOrSpace (suc k) (c ∷ t) (suc i)
    by true f more = ⊎_elim (λ d. inl (d.0, rw f (omega (arith, d.1)))) (λ q. inr q) (more (rw f at e) (omega arith))
    by false f more = inr (blank_at (c ∷ t) (suc i) (rw f at e) h)

-- What a fraction that is read has: spaces alone behind its digits.
fraction_ends : (b v : ℕ) (u : List ℕ) (w : ℕ) → fraction_of b v u ≡ Ok (Some w) → blank (drop (length (leading b u)) u) ≡ true
unfolding fraction_of
fraction_ends b v u w e = by (not (ended (leading b u)) && blank (drop (length (leading b u)) u)) refl
  where
    by : (t : Bool) → (not (ended (leading b u)) && blank (drop (length (leading b u)) u)) ≡ t → blank (drop (length (leading b u)) u) ≡ true
    by true f = (and_split (not (ended (leading b u))) (blank (drop (length (leading b u)) u)) f).1
    by false f = absurd (bad-filled (rw f at e))

-- What a magnitude that is read has: the point behind its digits, and a fraction.
magnitude_ends : (a b : ℕ) (t : List ℕ) (w : ℕ) → magnitude_of a b t ≡ Ok (Some w)
    → (fraction_of b (number (leading a t)) (drop (length (leading a t) + 1) t) ≡ Ok (Some w))
unfolding magnitude_of
magnitude_ends a b t w e = by (is "." (head (drop (length (leading a t)) t))) refl
  where
    by : (q : Bool) → is "." (head (drop (length (leading a t)) t)) ≡ q → fraction_of b (number (leading a t)) (drop (length (leading a t) + 1) t) ≡ Ok (Some w)
    by true f = rw (f, tail_at t (length (leading a t))) at e
    by false f = absurd (bad-filled (rw f at e))

module _ (a b : ℕ) (t : List ℕ) (w : ℕ) (one : 1 ≤ b) (n : length t ≡ a + 1 + b) (dot : get_or t a 0 ≡ 46) (last : get_or t (a + b) 0 ≡ 32 → ⊥) (e : magnitude_of a b t ≡ Ok (Some w)) where
  abbrev behind : ℕ → List ℕ
  behind k = drop (k + 1) t

  ends : blank (drop (length (leading b (behind (length (leading a t))))) (behind (length (leading a t)))) ≡ true
  ends = fraction_ends b (number (leading a t)) (behind (length (leading a t))) w (magnitude_ends a b t w e)

  -- a point that stands among a fraction is neither a digit of it nor a space,
  no_point : length (leading a t) < a → ⊥
  no_point l =
      let k = length (leading a t) in
      let j = a - (k + 1) in
      let inside : j < length (behind k) = rw (length-drop (k + 1) t) (omega arith) in
      let place : k + 1 + j ≡ a = omega arith in
      let here : get_or (behind k) j 0 ≡ 46 = get_or-drop (k + 1) t j 0 ∙ ap (λ (i : ℕ). get_or t i 0) place ∙ dot in
      ⊎_elim (λ d. false≢true (rw here at d.0)) (λ q. omega (arith, sym here ∙ q)) (digit_or_space b (behind k) j ends inside)

  -- so that all places before it are filled
  filled : length (leading a t) ≡ a
  filled = elim (dec_lt (length (leading a t)) a) [ yes l ↦ absurd (no_point l) | no l ↦ omega (arith, leading_few a t) ]

  pub front_full : every is_digit (take a t) ≡ true
  front_full = all_leading a t filled

  -- and, since no space stands last, those behind it.
  pub back_full : every is_digit (drop (a + 1) t) ≡ true
  back_full =
      let u = behind a in
      let size : length u ≡ b = length-drop (a + 1) t ∙ omega arith in
      let ends' : blank (drop (length (leading b u)) u) ≡ true = rw filled at ends in
      let place : a + 1 + (b - 1) ≡ a + b = omega arith in
      let space : get_or u (b - 1) 0 ≡ 32 → get_or t (a + b) 0 ≡ 32 = λ q. ap (λ (i : ℕ). get_or t i 0) (sym place) ∙ sym (get_or-drop (a + 1) t (b - 1) 0) ∙ q in
      let all : length (leading b u) ≡ b = ⊎_elim (λ d. omega (arith, d.1, leading_few b u)) (λ q. absurd (last (space q))) (digit_or_space b u (b - 1) ends' (omega arith)) in
      rw (take_all b u (omega arith)) at (all_leading b u all)

-- What is read onto v counts v before it.
joined_number : (v : ℕ) (xs : List ℕ) → number_from v xs ≡ v * 10 ^ length xs + number xs
unfolding number_from
joined_number v [] = rw (mul-one v, add-zero v)
joined_number v (c ∷ xs) =
    let d = c - 48 in
    let k = 10 ^ length xs in
    let both : (v * 10 + d) * k ≡ v * (10 * k) + d * k = add-mul (v * 10) d k ∙ ap (λ (x : ℕ). x + d * k) (mul_assoc v 10 k) in
    joined_number (v * 10 + d) xs
    ∙ ap (λ (x : ℕ). x + number xs) both
    ∙ add_assoc (v * (10 * k)) (d * k) (number xs)
    ∙ rw (pow-succ' 10 (length xs), zero-add d) (ap (λ (x : ℕ). v * (10 * k) + x) (sym (joined_number d xs)))

-- What passes is a number that was read.
read_filled : (wrong : Flaw) (minus : Bool) (m : Result (Option ℕ) Unread) → passes above_zero (in_sign wrong minus m) ≡ true → m ≡ Ok (Some (amount m))
read_filled wrong minus (Err bad) e = absurd (false≢true e)
read_filled wrong minus (Ok None) e = absurd (false≢true e)
read_filled wrong minus (Ok (Some v)) e = refl

-- An amount that keeps its rule, and reaches through its columns,
module _ (p : List ℕ) (n : length p ≡ 11) (good : amount_good p ≡ true) (through : ReachesThrough p) where
  there : ended p ≡ false
  there = ended-length p ∙ ne_eqb (length p) 0 (λ q. omega arith)

  said : magnitude_of 5 5 p ≡ Ok (Some (amount (magnitude_of 5 5 p)))
  unfolding amount_good decimal_of unsigned
  said =
      let same : skip p ≡ p = skip_other p 0 (omega arith) through.1 in
      read_filled _ (has_minus false (skip p)) (magnitude_of 5 5 p) (rw (same, there) at good)

  -- has digits before the point
  pub before_point : every is_digit (take 5 p) ≡ true
  before_point = front_full 5 5 p (amount (magnitude_of 5 5 p)) (omega arith) n through.0 through.2 said

  -- and behind it,
  behind_point : every is_digit (drop 6 p) ≡ true
  behind_point = back_full 5 5 p (amount (magnitude_of 5 5 p)) (omega arith) n through.0 through.2 said

  pub after_point : every is_digit (take 5 (drop 6 p)) ≡ true
  after_point = every_take is_digit 5 (drop 6 p) behind_point

  -- five of each,
  pub whole_below : number (take 5 p) < 100000
  whole_below = digits_below 5 (take 5 p) before_point (omega (arith, length-take-le 5 p (omega arith)))

  pub fraction_below : number (take 5 (drop 6 p)) < 100000
  fraction_below = digits_below 5 (take 5 (drop 6 p)) after_point (simp length-take (omega arith))

  -- and says what they say.
  pub says_digits : (q : List ℕ) → Some (record { amount = number (take 5 p) * 100000 + number (take 5 (drop 6 p)); unit = unit_of (head q) }) ≡ frequency_of p q
  unfolding frequency_of
  says_digits q =
      let size : length (drop 6 p) ≡ 5 = length-drop 6 p ∙ omega arith in
      let v = number_from (number (take 5 p)) (drop 6 p) in
      let value : v ≡ number (take 5 p) * 100000 + number (take 5 (drop 6 p)) =
      joined_number (number (take 5 p)) (drop 6 p) ∙ rw (size, take_all 5 (drop 6 p) (omega arith)) in
      rw (plain-decimal 5 5 p (omega arith) (omega arith) n before_point through.0 behind_point)
      (ap (λ (x : ℕ). Some (record { amount = x; unit = unit_of (head q) })) (sym value))
