-- Three ways to go through the numbers 1 to n.
use Rattle.std.specs.Prelude.{ℕ, zero, suc, ◌+◌, Bool, cond, List, [], ◌++◌}

-- x, or y where x is 0.
abbrev pub or_else : ℕ → ℕ → ℕ
or_else zero y = y
or_else (suc x) y = suc x

-- The lowest of 1 to n that passes, or 0.
abbrev pub first : (ℕ → Bool) → ℕ → ℕ
first test zero = 0
first test (suc n) = or_else (first test n) (cond (test (suc n)) (suc n) 0)

-- How many of 1 to n pass.
abbrev pub count : (ℕ → Bool) → ℕ → ℕ
count test zero = 0
count test (suc n) = count test n + cond (test (suc n)) 1 0

-- What stands for 1 to n, one after the other.
abbrev pub rows : (ℕ → List ℕ) → ℕ → List ℕ
rows row zero = []
rows row (suc n) = rows row n ++ row (suc n)
