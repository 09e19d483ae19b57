-- `decimals::scaled` meets its contract: a number with its zeros has no more than eighteen digits.
use Rattle.std.proofs.Common.{arith, ℕ, ◌≡◌, ◌≤◌, ◌+◌, ◌*◌, ◌-◌, ◌^◌, sym, ap, ◌∙◌, pow-add}
use Rattle.std.proofs.Math.Nat.{mul-le-mul_right}
use Rattle.decimals.proofs.scaled.Goals as goal

pub overflow_mul-result : goal.overflow_mul-result
overflow_mul-result c =
    let v = c.args.v in
    let k = c.args.k in
    let whole : 18 - k + k ≡ 18 = omega arith in
    let most : v * 10 ^ k ≤ 10 ^ (18 - k) * 10 ^ k = mul-le-mul_right (10 ^ k) (omega arith) in
    let all : 10 ^ (18 - k) * 10 ^ k ≡ 10 ^ 18 = sym (pow-add 10 (18 - k) k) ∙ ap (λ (n : ℕ). 10 ^ n) whole in
    rw c.pow.ensures (record { fits = omega (arith, most, all) })
