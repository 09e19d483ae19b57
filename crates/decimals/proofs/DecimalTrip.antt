-- What is spelled of a decimal is read back, over both digit counts.
use mathlib.Core.Path.{◌≡◌, refl, ◌∙◌}
use mathlib.Core.Bool.{Bool, true, false, false≢true}
use mathlib.Core.List.{List, [], ◌∷◌, ◌++◌}
use Prim.Native.Nat.{ℕ, zero, suc, ◌+◌, ◌-◌, ◌*◌, ◌/◌, ◌^◌, ◌≤◌, ◌<◌}
use native.Mathlib.Omega.{arith}
use native.Mathlib.Nat.{zero-add, mul-one, zero-mul, one-le-pow, div-add-mod', div-lt_iff_lt-mul, sub_self}
use lib.Pow.{pow-add}
use lib.ListN.{length, drop_of_length-le}
use lib.Seq.{drop_at}
use lib.IntN.{ℤ, pos, negsuc, nat_abs}
use Rattle.columns.specs.Texts.{head, ended, skip, every}
use Rattle.numerals.specs.Numbers.{leading, number_from, number, spell_digits, is_negative}
use Rattle.decimals.specs.Decimals.{fraction_of, magnitude_of, admits_decimal, decimal_of, spell_magnitude, spell_decimal, decimal_width}
use Rattle.numerals.proofs.NumberLaws.{leading_all}
use Rattle.numerals.proofs.RoundTrip.{begins_high, front, minus_trip, not-ended, plain_trip, spelled_digits, spelled_front, spelled_length, spelled_number, spelled_says}
use Rattle.std.specs.Prelude.{Some, Ok}

-- decimals: the magnitude
magnitude_trip : (a b m : ℕ) → 1 ≤ b → m < 10 ^ (a + b) → magnitude_of a b (spell_magnitude a b m) ≡ Ok (Some m)
unfolding magnitude_of fraction_of spell_magnitude skip
magnitude_trip a b m one h =
    let hi = m / 10 ^ b in
    let q = spell_digits b m [] in
    let p = spell_digits a hi [] in
    let n : length p ≡ a = spelled_length a hi [] ∙ omega arith in
    let k : length q ≡ b = spelled_length b m [] ∙ omega arith in
    let few : hi < 10 ^ a = (div-lt_iff_lt-mul (one-le-pow b 10 (omega arith))).1 (rw pow-add at h) in
    let all : leading b q ≡ q = leading_all b q (spelled_digits b m [] (unfold every in refl)) (omega arith) in
    let first : leading a (p ++ (46 ∷ q)) ≡ p = rw n at (front p (46 ∷ q) (spelled_digits a hi [] (unfold every in refl))) in
    let said : number_from (number p) q * 10 ^ (b - length q) ≡ m =
    rw (spelled_says a 0 hi few, zero-mul, zero-add, spelled_number b hi m [], k, sub_self) (mul-one _ ∙ (unfold number_from in div-add-mod' m (10 ^ b))) in
    rw (spelled_front a hi (46 ∷ q), first, drop_at p (46 ∷ q) (length p) refl, all, not-ended b m [] one, drop_of_length-le q {i = length q} (omega arith), said)

-- it begins with a digit or the point
magnitude_begins : (a b m : ℕ) → (ended (spell_magnitude a b m) ≡ false) × (46 ≤ head (spell_magnitude a b m))
unfolding spell_magnitude spell_digits
magnitude_begins zero b m = (refl, omega arith)
magnitude_begins (suc a) b m =
    let t : List ℕ = 46 ∷ spell_digits b m [] in
    (not-ended (suc a) (m / 10 ^ b) t (omega arith), omega (arith, begins_high (suc a) (m / 10 ^ b) t (omega arith)))

-- the theorem: what is written of a number in range is read as that number
pub decimal_trip : (a b : ℕ) (sign : Bool) (z : ℤ) → 1 ≤ b → nat_abs z < 10 ^ (a + b) → (is_negative z ≡ true → sign ≡ true) → decimal_of a b sign (spell_decimal a b sign z) ≡ Ok (Some z)
unfolding decimal_of spell_decimal skip
decimal_trip a b true (pos n) one h s = let g = magnitude_begins a b n in plain_trip true (admits_decimal true) (magnitude_of a b) (32 ∷ spell_magnitude a b n) (spell_magnitude a b n) n refl g.0 g.1 (magnitude_trip a b n one h)
decimal_trip a b true (negsuc n) one h s = minus_trip (admits_decimal true) (magnitude_of a b) (spell_magnitude a b (suc n)) (suc n) (magnitude_trip a b (suc n) one h)
decimal_trip a b false (pos n) one h s = let g = magnitude_begins a b n in plain_trip false (admits_decimal false) (magnitude_of a b) (spell_magnitude a b n) (spell_magnitude a b n) n refl g.0 g.1 (magnitude_trip a b n one h)
decimal_trip a b false (negsuc n) one h s = absurd (false≢true (s refl))

-- it has its columns
pub decimal-length : (a b : ℕ) (sign : Bool) (z : ℤ) → length (spell_decimal a b sign z) ≡ decimal_width a b sign
unfolding spell_decimal spell_magnitude
decimal-length a b true z = simp spelled_length (omega arith)
decimal-length a b false z = simp spelled_length (omega arith)
