-- Columns that hold the one spelling of what they say: digits, whole numbers, decimals over both digit counts and the sign.
use mathlib.Core.Path.{◌≡◌, refl, sym, ap, ◌∙◌}
use mathlib.Core.Bool.{Bool, true, false, not, ◌&&◌, ◌||◌, true≢false}
use mathlib.Core.List.{List, [], ◌∷◌, ◌++◌, append-nil}
use Prim.Native.Nat.{ℕ, zero, suc, ◌+◌, ◌-◌, ◌*◌, ◌/◌, ◌%◌, ◌^◌, ◌≤◌, ◌<◌}
use native.Mathlib.Omega.{arith}
use native.Mathlib.Numerals.{add-one}
use native.Mathlib.Nat.{pow-suc, pow-succ', div-one, div-div-eq-div-mul}
use lib.Dec.{eqb}
use lib.ListN.{length, get_or, take, drop, length-drop}
use lib.Seq.{length-take-le, split_at}
use lib.IntN.{ℤ, pos, negsuc, nat_abs}
use borrow.Author.Tests.{eqb-true, not-true}
use Rattle.columns.specs.Sets.{is_digit}
use Rattle.columns.specs.Texts.{every, same}
use Rattle.numerals.specs.Numbers.{number_from, number, whole_of, amount, spell_digits, spell_whole, is_negative}
use Rattle.decimals.specs.Decimals.{spell_magnitude, spell_decimal}
use Rattle.formats.specs.Tenths.{tenths_of, spell_tenths}
use Rattle.columns.proofs.TextLaws.{and_split}
use Rattle.columns.proofs.ColumnLaws.{either}
use Rattle.columns.proofs.SameLaws.{same_refl}
use Rattle.numerals.proofs.NumberLaws.{digit_range, number_below, digits_below}
use Rattle.numerals.proofs.RoundTrip.{whole_trip}
use Rattle.decimals.proofs.DecimalTrip.{decimal_trip}
use Rattle.own_numbers.specs.OwnNumbers.{digits_around, signed_around}
use Rattle.std.specs.Prelude.{Some, Ok}

-- the first of the digits that are spelled
first_digit : (k m : ℕ) (t : List ℕ) → spell_digits (suc k) m t ≡ (48 + m / 10 ^ k % 10) ∷ spell_digits k m t
unfolding spell_digits
first_digit zero m t = rw (div-one m)
first_digit (suc k) m t = first_digit k (m / 10) ((48 + m % 10) ∷ t) ∙ rw (div-div-eq-div-mul m 10 (10 ^ k), ← pow-succ' 10 k)

-- Digits that were read onto v leave v, and are the spelling of what they say.
pub read_onto : (xs : List ℕ) (v : ℕ) → every is_digit xs ≡ true → number_from v xs / 10 ^ length xs ≡ v
unfolding every number_from
read_onto [] v e = div-one v
read_onto (c ∷ xs) v e =
    let d = and_split (is_digit c) (every is_digit xs) e in
    let r = digit_range c d.0 in
    let m = number_from (v * 10 + (c - 48)) xs in
    let on : m / 10 ^ length xs ≡ v * 10 + (c - 48) = read_onto xs (v * 10 + (c - 48)) d.1 in
    rw (pow-suc 10 (length xs), ← div-div-eq-div-mul m (10 ^ length xs) 10, on) (omega arith)

pub digits_own : (xs : List ℕ) (v : ℕ) (t : List ℕ) → every is_digit xs ≡ true → spell_digits (length xs) (number_from v xs) t ≡ xs ++ t
unfolding every number_from
digits_own [] v t e = unfold spell_digits in refl
digits_own (c ∷ xs) v t e =
    let d = and_split (is_digit c) (every is_digit xs) e in
    let r = digit_range c d.0 in
    let u = v * 10 + (c - 48) in
    let m = number_from u xs in
    let digit : 48 + u % 10 ≡ c = omega arith in
    first_digit (length xs) m t ∙ rw (read_onto xs u d.1, digits_own xs u t d.1, digit)

-- ---- whole numbers

-- k digits are the number that they say, in k columns
pub own_says : (p : List ℕ) → every is_digit p ≡ true → spell_whole (length p) (number p) ≡ p
own_says p e = digits_own p 0 [] e ∙ append-nil p

pub whole_says : (p : List ℕ) → 1 ≤ length p → length p ≤ 18 → every is_digit p ≡ true → whole_of p ≡ Ok (Some (number p))
whole_says p one few e =
    ap whole_of (sym (own_says p e)) ∙ whole_trip (length p) (number p) one few (digits_below (length p) p e (omega arith))

pub whole-own : (p : List ℕ) → 1 ≤ length p → length p ≤ 18 → every is_digit p ≡ true → spell_whole (length p) (amount (whole_of p)) ≡ p
whole-own p one few e = rw (whole_says p one few e) (own_says p e)

-- ---- decimals

-- what stands around a mark
pub record Around (mark a : ℕ) (t : List ℕ) : Type 0 where
  pub mark_is : get_or t a 0 ≡ mark
  pub front : every is_digit (take a t) ≡ true
  pub back : every is_digit (drop (a + 1) t) ≡ true

pub around : (mark a : ℕ) (t : List ℕ) → digits_around mark a t ≡ true → Around mark a t
unfolding digits_around
around mark a t e =
    let h = and_split (eqb (get_or t a 0) mark) (every is_digit (take a t) && every is_digit (drop (a + 1) t)) e in
    let g = and_split (every is_digit (take a t)) (every is_digit (drop (a + 1) t)) h.1 in
    record { mark_is = eqb-true (get_or t a 0) mark h.0; front = g.0; back = g.1 }

-- the number of what stands around a point
abbrev pub pointed : ℕ → List ℕ → ℕ
pointed a t = number_from (number (take a t)) (drop (a + 1) t)

module _ (a b : ℕ) (t : List ℕ) (n : length t ≡ a + 1 + b) (h : Around 46 a t) where
  front_length : length (take a t) ≡ a
  front_length = length-take-le a t (omega arith)

  back_length : length (drop (a + 1) t) ≡ b
  back_length = length-drop (a + 1) t ∙ omega arith

  -- is spelled so,
  pub pointed-own : spell_magnitude a b (pointed a t) ≡ t
  unfolding spell_magnitude
  pointed-own =
      let v = number (take a t) in
      let q = drop (a + 1) t in
      let high : pointed a t / 10 ^ b ≡ v = ap (λ (k : ℕ). pointed a t / 10 ^ k) (sym back_length) ∙ read_onto q v h.back in
      let low : spell_digits b (pointed a t) [] ≡ q = ap (λ (k : ℕ). spell_digits k (pointed a t) []) (sym back_length) ∙ digits_own q v [] h.back ∙ append-nil q in
      let whole : t ≡ take a t ++ (46 ∷ q) = split_at t a 0 (omega arith) ∙ rw (h.mark_is, add-one a) in
      rw (high, low) (ap (λ (k : ℕ). spell_digits k v (46 ∷ q)) (sym front_length) ∙ digits_own (take a t) 0 (46 ∷ q) h.front ∙ sym whole)

  -- and has its places
  pub pointed_below : pointed a t < 10 ^ (a + b)
  pointed_below =
      let v = number (take a t) in
      let few : v < 10 ^ a = digits_below a (take a t) h.front (omega (arith, front_length)) in
      rw back_length at (number_below v a (drop (a + 1) t) h.back few)

-- A decimal that is the spelling of a number is what it says in the one spelling.
pub decimal-own : (a b : ℕ) (sign : Bool) (z : ℤ) (p : List ℕ) → 1 ≤ b → nat_abs z < 10 ^ (a + b) → (is_negative z ≡ true → sign ≡ true) → spell_decimal a b sign z ≡ p → spell_tenths a b sign (tenths_of a b sign p) ≡ p
unfolding spell_tenths tenths_of
decimal-own a b sign z p one few s e = rw (← e, decimal_trip a b sign z one few s)

-- So is one with digits in all its places,
pub plain-own : (a b : ℕ) (p : List ℕ) → 1 ≤ b → length p ≡ a + 1 + b → digits_around 46 a p ≡ true → spell_tenths a b false (tenths_of a b false p) ≡ p
unfolding spell_decimal
plain-own a b p one n e =
    let h = around 46 a p e in
    decimal-own a b false (pos (pointed a p)) p one (pointed_below a b p n h) (λ x. x) (pointed-own a b p n h)

-- and one with its sign before them: a space, or minus where the number is not zero.
module _ (a b c : ℕ) (none t : List ℕ) (one : 1 ≤ b) (n : length t ≡ a + 1 + b) (zero_is : none ≡ spell_magnitude a b 0) (h : Around 46 a t) where
  space_own : c ≡ 32 → spell_tenths a b true (tenths_of a b true (c ∷ t)) ≡ c ∷ t
  unfolding spell_decimal
  space_own e = decimal-own a b true (pos (pointed a t)) (c ∷ t) one (pointed_below a b t n h) (λ x. refl) (rw (e, pointed-own a b t n h))

  minus-own : c ≡ 45 → same none t ≡ false → spell_tenths a b true (tenths_of a b true (c ∷ t)) ≡ c ∷ t
  unfolding spell_decimal
  minus-own e f = by (pointed a t) refl where
    by : (v : ℕ) → pointed a t ≡ v → spell_tenths a b true (tenths_of a b true (c ∷ t)) ≡ c ∷ t
    by zero q =
        let nothing : none ≡ t = zero_is ∙ ap (spell_magnitude a b) (sym q) ∙ pointed-own a b t n h in
        absurd (true≢false (sym (ap (same none) (sym nothing) ∙ same_refl none) ∙ f))
    by (suc w) q =
        let few : suc w < 10 ^ (a + b) = rw q at (pointed_below a b t n h) in
        decimal-own a b true (negsuc w) (c ∷ t) one few (λ x. refl) (rw (e, ← q, pointed-own a b t n h))

pub signed-own : (a b : ℕ) (none p : List ℕ) → 1 ≤ b → length p ≡ suc (a + 1 + b) → none ≡ spell_magnitude a b 0 → signed_around a none p ≡ true → spell_tenths a b true (tenths_of a b true p) ≡ p
unfolding signed_around
signed-own a b none [] one n z e = absurd (omega arith)
signed-own a b none (c ∷ t) one n z e =
    let l : length t ≡ a + 1 + b = omega arith in
    let h = and_split (digits_around 46 a t) (eqb c 32 || (eqb c 45 && not (same none t))) e in
    let g = around 46 a t h.0 in
    either (eqb c 32) (eqb c 45 && not (same none t)) h.1
    (λ f. space_own a b c none t one l z g (eqb-true c 32 f))
    (λ f. let m = and_split (eqb c 45) (not (same none t)) f in minus-own a b c none t one l z g (eqb-true c 45 m.0) (not-true _ m.1))
