-- What a decimal's digits say is in range, over both digit counts.
use mathlib.Core.Path.{◌≡◌}
use mathlib.Core.Bool.{not, ◌&&◌}
use mathlib.Core.List.{List}
use Prim.Native.Nat.{ℕ, ◌+◌, ◌-◌, ◌*◌, ◌^◌, ◌≤◌, ◌<◌}
use native.Mathlib.Omega.{arith}
use native.Mathlib.Nat.{pow-le-pow_right, one-le-pow, mul-lt-mul_of_pos_right}
use lib.Pow.{pow-add}
use lib.ListN.{length, drop}
use Rattle.columns.specs.Sets.{is}
use Rattle.columns.specs.Texts.{head, tail, ended, skip}
use Rattle.numerals.specs.Numbers.{leading, number, number_from, amount}
use Rattle.decimals.specs.Decimals.{fraction_of, magnitude_of}
use Rattle.columns.proofs.TextLaws.{cond_case}
use Rattle.numerals.proofs.NumberLaws.{leading_few, leading_digits, front_below, number_below}
use Rattle.std.specs.Prelude.{Option, Result}
use Rattle.numerals.specs.declared.Unread.{Unread}

-- a number of p digits with q zeros behind it has p + q digits
below_scaled : (x p q : ℕ) → x < 10 ^ p → x * 10 ^ q < 10 ^ (p + q)
below_scaled x p q h = rw (pow-add 10 p q) (mul-lt-mul_of_pos_right h (one-le-pow q 10 (omega arith)))

-- what stands behind the point, read onto a digits, has a + b
pub fraction_below : (a b v : ℕ) (t : List ℕ) → v < 10 ^ a → amount (fraction_of b v t) < 10 ^ (a + b)
unfolding fraction_of
fraction_below a b v t h =
    let l = leading b t in
    let f : length l ≤ b = leading_few b t in
    let e : a + length l + (b - length l) ≡ a + b = omega arith in
    cond_case (λ (w : Result (Option ℕ) Unread). amount w < 10 ^ (a + b)) (not (ended l) && ended (skip (drop (length l) t)))
    (λ q. rw e at (below_scaled (number_from v l) (a + length l) (b - length l) (number_below v a l (leading_digits b t) h)))
    (λ q. one-le-pow (a + b) 10 (omega arith))

-- a magnitude has a + b digits
pub magnitude_below : (a b : ℕ) (t : List ℕ) → amount (magnitude_of a b t) < 10 ^ (a + b)
unfolding magnitude_of
magnitude_below a b t =
    let point = drop (length (leading a t)) t in
    cond_case (λ (w : Result (Option ℕ) Unread). amount w < 10 ^ (a + b)) (is "." (head point))
    (λ q. fraction_below a b (number (leading a t)) (tail point) (front_below a t))
    (λ q. one-le-pow (a + b) 10 (omega arith))

-- of eighteen digits, a leave room for b
pub leaves_room : (a b v : ℕ) → a + b ≤ 18 → v < 10 ^ a → v < 10 ^ (18 - b)
leaves_room a b v l h = omega (arith, pow-le-pow_right {n = 10} (omega arith) {i = a} {j = 18 - b} (omega arith))

-- and the digits behind the point leave room for the zeros that stand for the others
pub zeros_fit : (b v : ℕ) (t : List ℕ) → b ≤ 18 → v < 10 ^ (18 - b) → number_from v (leading b t) < 10 ^ (18 - (b - length (leading b t)))
zeros_fit b v t l h =
    let l' = leading b t in
    let f : length l' ≤ b = leading_few b t in
    let e : 18 - b + length l' ≡ 18 - (b - length l') = omega arith in
    rw e at (number_below v (18 - b) l' (leading_digits b t) h)

-- so that every magnitude has at most eighteen
pub magnitude_small : (a b : ℕ) (t : List ℕ) → a + b ≤ 18 → amount (magnitude_of a b t) < 10 ^ 18
magnitude_small a b t l = omega (arith, magnitude_below a b t, pow-le-pow_right {n = 10} (omega arith) {i = a + b} {j = 18} l)
