-- The sum over digits, and what its last digit catches.
use mathlib.Core.Path.{◌≡◌, refl, sym, ap, ◌∙◌}
use mathlib.Core.Bool.{Bool, true, false, not, ◌&&◌, ◌||◌}
use mathlib.Core.List.{List, [], ◌∷◌, ◌++◌}
use Prim.Native.Nat.{ℕ, zero, suc, ◌+◌, ◌*◌, ◌%◌, ◌≤◌, ◌<◌}
use native.Mathlib.Omega.{arith}
use native.Mathlib.Nat.{eq-or-lt_of_le}
use mathlib.Core.Logic.{⊎_elim}
use lib.Dec.{eqb}
use borrow.Author.Tests.{eq-eqb, eqb-true}
use Rattle.columns.proofs.TextLaws.{and_split}
use lib.ListN.{length, take, drop, get_or, take-append-drop, drop_of_length-le}
use lib.Seq.{drop-cons, length-take-le}
use Rattle.vehicles.specs.Digits.{number_digits, weighed, sum_from, digit_sum, digits_of, last_right}

-- Whether the digit behind n digits is doubled.
abbrev pub turn_after : Bool → ℕ → Bool
turn_after doubles zero = doubles
turn_after doubles (suc n) = turn_after (not doubles) n

-- Digits are summed part by part.
pub sum_append : (doubles : Bool) (front rest : List ℕ) → sum_from doubles (front ++ rest) ≡ sum_from doubles front + sum_from (turn_after doubles (length front)) rest
unfolding sum_from
sum_append doubles [] rest = omega arith
sum_append doubles (d ∷ front) rest = omega (arith, sum_append (not doubles) front rest)

-- A test holds for all numbers below n: it is computed for each,
abbrev all_below : ℕ → (ℕ → Bool) → Bool
all_below zero test = true
all_below (suc n) test = all_below n test && test n

below_holds : (n : ℕ) (test : ℕ → Bool) → all_below n test ≡ true → (d : ℕ) → d < n → test d ≡ true
below_holds zero test all d h = absurd (omega arith)
below_holds (suc n) test all d h =
    let both = and_split (all_below n test) (test n) all in
    ⊎_elim (λ (e : d ≡ n). ap test e ∙ both.1) (λ (l : d < n). below_holds n test both.0 d l) (eq-or-lt_of_le (omega arith))

-- and where it says that one thing follows from another, it does.
abbrev follows : Bool → Bool → Bool
follows p q = not p || q

for_digits : (p q : ℕ → ℕ → Bool) → all_below 10 (λ d. all_below 10 (λ e. follows (p d e) (q d e))) ≡ true → (d e : ℕ) → d ≤ 9 → e ≤ 9 → p d e ≡ true → q d e ≡ true
for_digits p q all d e h k given =
    let told = below_holds 10 (λ e. follows (p d e) (q d e)) (below_holds 10 (λ d. all_below 10 (λ e. follows (p d e) (q d e))) all d (omega arith)) e (omega arith) in
    sym (ap (λ b. follows b (q d e)) given) ∙ told

-- A digit that is weighed is below ten still,
weighed_small : (doubles : Bool) (d : ℕ) → d ≤ 9 → weighed doubles d ≤ 9
weighed_small true d h = omega arith
weighed_small false d h = h

-- and no other one weighs as much.
weighed_one : (doubles : Bool) (d e : ℕ) → d ≤ 9 → e ≤ 9 → weighed doubles d ≡ weighed doubles e → d ≡ e
weighed_one true d e h k same = eqb-true d e (for_digits (λ d e. eqb (weighed true d) (weighed true e)) eqb refl d e h k (eq-eqb (weighed true d) (weighed true e) same))
weighed_one false d e h k same = same

-- Of two numbers below ten that bring the same sum to a multiple of ten, each is the other.
below_ten : (a x y b : ℕ) → x ≤ 9 → y ≤ 9 → (a + (x + b)) % 10 ≡ 0 → (a + (y + b)) % 10 ≡ 0 → x ≡ y
below_ten a x y b h k one two = omega (arith, one, two)

-- Every single wrong digit is caught: where one digit brings the sum to a multiple of ten, no other one does.
pub wrong_digit : (front rest : List ℕ) (d e : ℕ) → d ≤ 9 → e ≤ 9 → digit_sum (front ++ (d ∷ rest)) % 10 ≡ 0 → digit_sum (front ++ (e ∷ rest)) % 10 ≡ 0 → d ≡ e
unfolding sum_from
wrong_digit front rest d e h k one two =
    let turn = turn_after true (length front) in
    let x : (digit_sum front + (weighed turn d + sum_from (not turn) rest)) % 10 ≡ 0 = ap (λ (n : ℕ). n % 10) (sym (sum_append true front (d ∷ rest))) ∙ one in
    let y : (digit_sum front + (weighed turn e + sum_from (not turn) rest)) % 10 ≡ 0 = ap (λ (n : ℕ). n % 10) (sym (sum_append true front (e ∷ rest))) ∙ two in
    weighed_one turn d e h k (below_ten (digit_sum front) (weighed turn d) (weighed turn e) (sum_from (not turn) rest) (weighed_small turn d h) (weighed_small turn e k) x y)

-- Two digits whose order the sum does not tell: equal ones, and 0 and 9.
abbrev pub order_untold : ℕ → ℕ → Bool
order_untold d e = eqb d e || (eqb (d * e) 0 && eqb (d + e) 9)

-- Two numbers that bring the same sum to a multiple of ten end alike.
end_alike : (a x y b : ℕ) → (a + (x + b)) % 10 ≡ 0 → (a + (y + b)) % 10 ≡ 0 → x % 10 ≡ y % 10
end_alike a x y b one two = omega (arith, one, two)

-- Where the first of two neighbours is doubled,
order_told : (d e a b : ℕ) → d ≤ 9 → e ≤ 9 → (a + (weighed true d + (e + b))) % 10 ≡ 0 → (a + (weighed true e + (d + b))) % 10 ≡ 0 → order_untold d e ≡ true
order_told d e a b h k x y =
    let alike = end_alike a (weighed true d + e) (weighed true e + d) b (ap (λ (n : ℕ). (a + n) % 10) (omega arith) ∙ x) (ap (λ (n : ℕ). (a + n) % 10) (omega arith) ∙ y) in
    for_digits (λ d e. eqb ((weighed true d + e) % 10) ((weighed true e + d) % 10)) order_untold refl d e h k (eq-eqb _ _ alike)

-- and in any place: every other swap of two neighbours is caught.
pub wrong_order : (front rest : List ℕ) (d e : ℕ) → d ≤ 9 → e ≤ 9 → digit_sum (front ++ (d ∷ e ∷ rest)) % 10 ≡ 0 → digit_sum (front ++ (e ∷ d ∷ rest)) % 10 ≡ 0 → order_untold d e ≡ true
unfolding sum_from
wrong_order front rest d e h k one two = by (turn_after true (length front)) (ap (λ (n : ℕ). n % 10) (sym (sum_append true front (d ∷ e ∷ rest))) ∙ one) (ap (λ (n : ℕ). n % 10) (sym (sum_append true front (e ∷ d ∷ rest))) ∙ two) where
  by : (turn : Bool) → (digit_sum front + sum_from turn (d ∷ e ∷ rest)) % 10 ≡ 0 → (digit_sum front + sum_from turn (e ∷ d ∷ rest)) % 10 ≡ 0 → order_untold d e ≡ true
  by true x y = order_told d e (digit_sum front) (sum_from true rest) h k x y
  by false x y =
      let p : (digit_sum front + (weighed true d + (e + sum_from false rest))) % 10 ≡ 0 = ap (λ (n : ℕ). (digit_sum front + n) % 10) (omega arith) ∙ y in
      let q : (digit_sum front + (weighed true e + (d + sum_from false rest))) % 10 ≡ 0 = ap (λ (n : ℕ). (digit_sum front + n) % 10) (omega arith) ∙ x in
      order_told d e (digit_sum front) (sum_from false rest) h k p q

-- The sum over twelve digits is that over eleven and the last one.
digits_length : (t : List ℕ) → length (digits_of t) ≡ length t
digits_length [] = refl
digits_length (c ∷ t) = ap suc (digits_length t)

pub sum_last : (t : List ℕ) → length t ≡ number_digits → digit_sum (digits_of t) ≡ digit_sum (take 11 (digits_of t)) + get_or (digits_of t) 11 0
unfolding sum_from
sum_last t h =
    let ds = digits_of t in
    let n : length ds ≡ 12 = digits_length t ∙ h in
    let front : length (take 11 ds) ≡ 11 = length-take-le 11 ds (omega arith) in
    let last : drop 11 ds ≡ get_or ds 11 0 ∷ [] = drop-cons ds 11 0 (omega arith) ∙ ap (λ (l : List ℕ). get_or ds 11 0 ∷ l) (drop_of_length-le ds {i = 12} (omega arith)) in
    let turn : turn_after true (length (take 11 ds)) ≡ false = ap (turn_after true) front in
    let parts : digit_sum ds ≡ digit_sum (take 11 ds) + sum_from (turn_after true (length (take 11 ds))) (drop 11 ds) = ap (sum_from true) (sym (take-append-drop 11 ds)) ∙ sum_append true (take 11 ds) (drop 11 ds) in
    parts ∙ rw (turn, last) (omega arith)

-- So the last digit is right exactly where all twelve give a multiple of ten.
pub right_sum : (t : List ℕ) → length t ≡ number_digits → last_right t ≡ eqb (digit_sum (digits_of t) % 10) 0
unfolding last_right
right_sum t h = ap (λ (n : ℕ). eqb (n % 10) 0) (sym (sum_last t h))
