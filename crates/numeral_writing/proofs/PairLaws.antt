-- Digits that are written two at a time.
use mathlib.Core.Path.{◌≡◌, ◌∙◌}
use mathlib.Core.List.{List}
use Prim.Native.Nat.{ℕ, ◌+◌, ◌-◌, ◌*◌, ◌/◌, ◌%◌, ◌^◌, ◌≤◌, ◌<◌}
use native.Mathlib.Omega.{arith}
use lib.ListN.{length, set, drop, length-set}
use Rattle.numerals.specs.Numbers.{spell_digits}
use Rattle.numerals.proofs.Spelling.{spell_turn, div_turn}

-- what two of them leave of the number
rest_of : (m : ℕ) → m / 10 / 10 ≡ m / 100
rest_of m = omega arith

-- and the digit before the last
other_digit : (m : ℕ) → m / 10 % 10 ≡ m % 100 / 10
other_digit m =
    let tens : m / 10 ≡ 10 * (m / 100) + m % 100 / 10 = omega arith in
    let few : m % 100 / 10 < 10 = omega arith in
    omega (arith, tens, few)

-- two more digits, put in front of those that stand
pub pair_turn : (s : List ℕ) (at k m : ℕ) → 1 < k → at + k ≤ length s
    → spell_digits k m (drop (at + k) s) ≡ spell_digits (k - 2) (m / 100) (drop (at + (k - 2)) (set (set s (at + (k - 2) + 1) (48 + m % 100 % 10)) (at + (k - 2)) (48 + m % 100 / 10)))
pair_turn s at k m h l =
    let last : m % 10 ≡ m % 100 % 10 = omega arith in
    let other : m / 10 % 10 ≡ m % 100 / 10 = other_digit m in
    let two : k - 1 - 1 ≡ k - 2 = omega arith in
    let place : at + (k - 1) ≡ at + (k - 2) + 1 = omega arith in
    let s₁ = set s (at + (k - 1)) (48 + m % 10) in
    let second = spell_turn s₁ at (k - 1) (m / 10) (omega arith) (rw (length-set s (at + (k - 1)) (48 + m % 10)) (omega arith)) in
    rw (two, place, last, other, rest_of m) at (spell_turn s at k m (omega arith) l ∙ second)

-- and what is left of it
pub pair_left : (k m : ℕ) → 1 < k → m / 10 ^ k ≡ m / 100 / 10 ^ (k - 2)
pair_left k m h =
    let two : k - 1 - 1 ≡ k - 2 = omega arith in
    div_turn k m (omega arith) ∙ rw (two, rest_of m) at (div_turn (k - 1) (m / 10) (omega arith))
