-- A decimal that has all its digits: a of them, the point, and b.
use mathlib.Core.Path.{◌≡◌, refl, ap, ◌∙◌}
use mathlib.Core.Bool.{true, false}
use mathlib.Core.List.{List}
use Prim.Native.Nat.{ℕ, ◌+◌, ◌-◌, ◌≤◌}
use native.Mathlib.Omega.{arith}
use native.Mathlib.Nat.{mul-one}
use lib.ListN.{length, get_or, take, drop, length-drop, drop_of_length-le, take-append-drop}
use lib.IntN.{pos}
use lib.Seq.{length-take-le, get_or-take}
use borrow.Author.Tests.{ne_eqb}
use Rattle.columns.specs.Sets.{is_digit}
use Rattle.columns.specs.Texts.{ended, skip, every}
use Rattle.columns.proofs.TextLaws.{head_at, tail_at, ended-length, every_at}
use Rattle.numerals.specs.Numbers.{leading, number, number_from}
use Rattle.numerals.proofs.NumberLaws.{digit_range, leading_all}
use Rattle.numerals.proofs.RoundTrip.{front, plain_trip}
use Rattle.decimals.specs.Decimals.{fraction_of, magnitude_of, admits_decimal, decimal_of}
use Rattle.std.specs.Prelude.{Some, Ok}

-- behind the point
plain_fraction : (b v : ℕ) (u : List ℕ) → 1 ≤ b → length u ≡ b → every is_digit u ≡ true → fraction_of b v u ≡ Ok (Some (number_from v u))
unfolding fraction_of skip
plain_fraction b v u one l e =
    let none : b - length u ≡ 0 = omega arith in
    let some : ended u ≡ false = ended-length u ∙ ne_eqb (length u) 0 (λ q. omega arith) in
    rw (leading_all b u e (omega arith), some, drop_of_length-le u {i = length u} (omega arith), none) (ap (λ (n : ℕ). Ok (Some n)) (mul-one (number_from v u)))

-- and with what stands before it
pub plain_magnitude : (a b : ℕ) (t : List ℕ) → 1 ≤ b → length t ≡ a + 1 + b → every is_digit (take a t) ≡ true → get_or t a 0 ≡ 46 → every is_digit (drop (a + 1) t) ≡ true
    → magnitude_of a b t ≡ Ok (Some (number_from (number (take a t)) (drop (a + 1) t)))
unfolding magnitude_of
plain_magnitude a b t one l e dot f =
    let n : length (take a t) ≡ a = length-take-le a t (omega arith) in
    let first : leading a t ≡ take a t = rw (n, take-append-drop a t) at (front (take a t) (drop a t) e) in
    let rest : length (drop (a + 1) t) ≡ b = simp length-drop (omega arith) in
    rw (first, n, head_at t a, tail_at t a, dot) (plain_fraction b (number (take a t)) (drop (a + 1) t) one rest f)

-- so that a field without a sign says what its digits say
pub plain-decimal : (a b : ℕ) (p : List ℕ) → 1 ≤ a → 1 ≤ b → length p ≡ a + 1 + b → every is_digit (take a p) ≡ true → get_or p a 0 ≡ 46 → every is_digit (drop (a + 1) p) ≡ true
    → decimal_of a b false p ≡ Ok (Some (pos (number_from (number (take a p)) (drop (a + 1) p))))
unfolding decimal_of
plain-decimal a b p some one l e dot f =
    let there : ended p ≡ false = ended-length p ∙ ne_eqb (length p) 0 (λ q. omega arith) in
    let first = digit_range (get_or (take a p) 0 0) (every_at is_digit (take a p) 0 e (omega (arith, length-take-le a p (omega arith)))) in
    let begins : 48 ≤ get_or p 0 0 = omega (arith, first.0, get_or-take a p 0 0 (omega arith)) in
    plain_trip false (admits_decimal false) (magnitude_of a b) p p (number_from (number (take a p)) (drop (a + 1) p)) refl there (omega arith) (plain_magnitude a b p one l e dot f)
