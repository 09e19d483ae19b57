-- What is heard of a station that breaks no rule: its operator's code is two digits, and its transmit frequency has its places.
use mathlib.Core.Path.{◌≡◌, refl, ap}
use mathlib.Core.Bool.{Bool, true, false, cond, ◌&&◌, false≢true}
use mathlib.Core.List.{List, [], ◌∷◌}
use Prim.Native.Nat.{ℕ, zero, suc, ◌+◌, ◌-◌, ◌*◌, ◌/◌, ◌%◌, ◌^◌, ◌≤◌, ◌<◌}
use native.Mathlib.Omega.{arith}
use lib.Dec.{leb, eqb}
use lib.ListN.{length, get_or, take, drop}
use borrow.Author.Tests.{eqb-true, leb-true}
use Rattle.columns.specs.Sets.{is_digit}
use Rattle.columns.specs.Texts.{each, every}
use Rattle.columns.proofs.TextLaws.{and_split, and_both}
use Rattle.numerals.specs.Numbers.{number_from, number, spell_digits, spell_whole}
use Rattle.frequencies.specs.Frequencies.{frequency_fits}
use Rattle.frequencies.proofs.FrequencyColumns.{frequency_pair}
use Rattle.basics.proofs.RuleLaws.{rule}
use Rattle.station.specs.Places.{fields_of}
use Rattle.station.specs.Rules.{field_rules}
use Rattle.files.specs.Files.{record_at}
use Rattle.stations.specs.Stations.{code_at, reference_at, operator_at, transmit_at, field_of}
use Rattle.stations.proofs.GoodLaws.{holding}
use Rattle.hundredths.specs.Hundredths.{hundredths_of}
use Rattle.hundredths.proofs.StepLaws.{hundredths_below}
use Rattle.operator_counts.specs.declared.Heard.{Heard}
use Rattle.operator_counts.specs.Counts.{heard_at, sent_by, operators}
use Rattle.std.specs.Prelude.{Some, None}
use Rattle.std.proofs.lemmas.Option.{same_Some}

-- Places of a field that passes, from one on,
each-drop : (m : ℕ) (tests : List (ℕ → Bool)) (p : List ℕ) → each tests p ≡ true → each (drop m tests) (drop m p) ≡ true
unfolding each
each-drop zero tests p e = e
each-drop (suc m) [] [] e = refl
each-drop (suc m) [] (c ∷ p) e = absurd (false≢true e)
each-drop (suc m) (t ∷ tests) [] e = absurd (false≢true e)
each-drop (suc m) (t ∷ tests) (c ∷ p) e = each-drop m tests p (and_split (t c) (each tests p) e).1

-- and up to one, pass too.
each_take : (m : ℕ) (tests : List (ℕ → Bool)) (p : List ℕ) → each tests p ≡ true → each (take m tests) (take m p) ≡ true
unfolding each
each_take zero tests p e = refl
each_take (suc m) [] [] e = refl
each_take (suc m) [] (c ∷ p) e = absurd (false≢true e)
each_take (suc m) (t ∷ tests) [] e = absurd (false≢true e)
each_take (suc m) (t ∷ tests) (c ∷ p) e =
    let h = and_split (t c) (each tests p) e in
    and_both (t c) (each (take m tests) (take m p)) h.0 (each_take m tests p h.1)

-- Two digits.
abbrev pub TwoDigits : List ℕ → Type 0
TwoDigits p = each (is_digit ∷ is_digit ∷ []) p ≡ true

-- Station k, which breaks no rule.
module _ (file : List ℕ) (k : ℕ) (good : code_at file k ≡ 0) where
  -- Its operator's code is two digits,
  pub operator_digits : TwoDigits (operator_at file k)
  unfolding operator_at reference_at field_rules
  operator_digits =
      let all = rule (field_rules (fields_of (record_at file k))) (holding file k good) 30 in
      each_take 2 _ (drop 5 (field_of file k 30)) (each-drop 5 _ (field_of file k 30) all)

  -- and its transmit frequency has its places.
  pub transmit_fits : frequency_fits (transmit_at file k) ≡ true
  unfolding transmit_at field_rules
  transmit_fits = frequency_pair.read (field_of file k 1) (field_of file k 2) (rule (field_rules (fields_of (record_at file k))) (holding file k good) 1)

-- What two digits p are.
pub record Digits (p : List ℕ) : Type 0 where
  pub two : length p ≡ 2
  pub tens_from : 48 ≤ get_or p 0 0
  pub tens_to : get_or p 0 0 ≤ 57
  pub ones_from : 48 ≤ get_or p 1 0
  pub ones_to : get_or p 1 0 ≤ 57
  pub said : (get_or p 0 0 - 48) * 10 + (get_or p 1 0 - 48) ≡ number p

pub digits : (p : List ℕ) → TwoDigits p → Digits p
unfolding each number_from
digits [] e = absurd (false≢true e)
digits (a ∷ []) e = absurd (false≢true (and_split (is_digit a) false e).1)
digits (a ∷ b ∷ []) e =
    let h = and_split (is_digit a) (is_digit b && true) e in
    let g = and_split (is_digit b) true h.1 in
    let tens = and_split (leb 48 a) (leb a 57) h.0 in
    let ones = and_split (leb 48 b) (leb b 57) g.0 in
    record {
      two = refl;
      tens_from = leb-true 48 a tens.0;
      tens_to = leb-true a 57 tens.1;
      ones_from = leb-true 48 b ones.0;
      ones_to = leb-true b 57 ones.1;
      said = omega arith;
    }
digits (a ∷ b ∷ c ∷ p) e = absurd (false≢true (and_split (is_digit b) false (and_split (is_digit a) (is_digit b && false) e).1).1)

-- They are digits and no more than a number has,
pub two_digits : (p : List ℕ) → TwoDigits p → (length p ≤ 18) × (every is_digit p ≡ true)
unfolding each every
two_digits [] e = absurd (false≢true e)
two_digits (a ∷ []) e = absurd (false≢true (and_split (is_digit a) false e).1)
two_digits (a ∷ b ∷ []) e = (omega arith, e)
two_digits (a ∷ b ∷ c ∷ p) e = absurd (false≢true (and_split (is_digit b) false (and_split (is_digit a) (is_digit b && false) e).1).1)

-- say a number below a hundred,
pub number_below : (p : List ℕ) → TwoDigits p → number p < operators
number_below p e =
    let d = digits p e in
    omega (arith, d.said, d.tens_to, d.ones_to)

-- and spell it.
pub number_spelt : (p : List ℕ) → TwoDigits p → spell_whole 2 (number p) ≡ p
unfolding spell_digits number_from each
number_spelt [] e = absurd (false≢true e)
number_spelt (a ∷ []) e = absurd (false≢true (and_split (is_digit a) false e).1)
number_spelt (a ∷ b ∷ []) e =
    let d = digits (a ∷ b ∷ []) e in
    let tens : 48 + number (a ∷ b ∷ []) / 10 % 10 ≡ a = omega (arith, d.said, d.tens_from, d.tens_to, d.ones_from, d.ones_to) in
    let ones : 48 + number (a ∷ b ∷ []) % 10 ≡ b = omega (arith, d.said, d.tens_from, d.tens_to, d.ones_from, d.ones_to) in
    rw (tens, ones)
number_spelt (a ∷ b ∷ c ∷ p) e = absurd (false≢true (and_split (is_digit b) false (and_split (is_digit a) (is_digit b && false) e).1).1)

-- The operator of a station that is heard of has a number below a hundred.
pub heard_below : (file : List ℕ) (k : ℕ) (x : Heard) → heard_at file k ≡ Some x → x.operator < operators
unfolding heard_at
heard_below file k x e = by (eqb (code_at file k) 0) refl e
  where
    by : (b : Bool) → eqb (code_at file k) 0 ≡ b → cond b (Some (record { operator = number (operator_at file k); transmit = hundredths_of (transmit_at file k) })) None ≡ Some x → x.operator < operators
    by true t q =
        let n : number (operator_at file k) ≡ x.operator = ap (λ (y : Heard). y.operator) (same_Some _ x q) in
        omega (arith, n, number_below (operator_at file k) (operator_digits file k (eqb-true (code_at file k) 0 t)))
    by false t q = let z : ◌≡◌ {A = ℕ} 0 1 = cc in absurd (omega arith)

-- A frequency that is heard of an operator has sixteen digits at most.
module _ (file : List ℕ) (k c m : ℕ) where
  own_below : code_at file k ≡ 0 → (b : Bool) → cond b (hundredths_of (transmit_at file k)) None ≡ Some m → m < 10 ^ 16
  own_below good true e = hundredths_below (transmit_at file k) (transmit_fits file k good) m e
  own_below good false e = absurd (let z : ◌≡◌ {A = ℕ} 0 1 = cc in omega arith)

  pub sent_below : sent_by c (heard_at file k) ≡ Some m → m < 10 ^ 16
  unfolding heard_at
  sent_below = by (eqb (code_at file k) 0) refl
    where
      by : (b : Bool) → eqb (code_at file k) 0 ≡ b → sent_by c (cond b (Some (record { operator = number (operator_at file k); transmit = hundredths_of (transmit_at file k) })) None) ≡ Some m → m < 10 ^ 16
      by true good e = own_below (eqb-true (code_at file k) 0 good) (eqb (number (operator_at file k)) c) e
      by false bad e = absurd (let z : ◌≡◌ {A = ℕ} 0 1 = cc in omega arith)
