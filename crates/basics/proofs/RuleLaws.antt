-- Lists of rules: all hold exactly where none is broken, over any lists.
use mathlib.Core.Path.{◌≡◌, refl, sym, ◌∙◌}
use mathlib.Core.Bool.{Bool, true, false, false≢true}
use mathlib.Core.List.{List, [], ◌∷◌, ◌++◌}
use Prim.Native.Nat.{ℕ, zero, suc, ◌+◌, ◌-◌, ◌≤◌, ◌<◌}
use native.Mathlib.Numerals.{add-one}
use native.Mathlib.Omega.{arith}
use native.Mathlib.Nat.{add-zero}
use lib.ListN.{length, get_or, drop, drop_of_length-le}
use lib.Seq.{drop-cons}
use Rattle.basics.specs.Rules.{All, first_broken}

-- where no code is given, all hold,
pub all_hold : (k : ℕ) (rules : List Bool) → first_broken (suc k) rules ≡ 0 → All rules
unfolding first_broken
all_hold k [] e = tt
all_hold k (true ∷ rules) e = (refl, all_hold (suc k) rules e)
all_hold k (false ∷ rules) e = absurd (omega arith)

-- and where all hold, none is given
pub none-broken : (k : ℕ) (rules : List Bool) → All rules → first_broken k rules ≡ 0
unfolding first_broken
none-broken k [] h = refl
none-broken k (x ∷ rules) h = rw h.0 (none-broken (suc k) rules h.1)

-- the rule of code k
pub rule : (rules : List Bool) → All rules → (k : ℕ) → get_or rules (k - 1) true ≡ true
rule rules h k = at_place rules h (k - 1) where
  at_place : (rules : List Bool) → All rules → (i : ℕ) → get_or rules i true ≡ true
  at_place [] h i = refl
  at_place (x ∷ rules) h zero = h.0
  at_place (x ∷ rules) h (suc i) = at_place rules h.1 i

-- no code is given from before the first rule's,
none_before : (k j : ℕ) (rules : List Bool) → j < k → first_broken (suc k) rules ≡ suc j → ⊥
unfolding first_broken
none_before k j [] h e = omega arith
none_before k j (true ∷ rules) h e = none_before (suc k) j rules (omega arith) e
none_before k j (false ∷ rules) h e = omega arith

-- and none of a rule that holds
pub never-given : (k i : ℕ) (rules : List Bool) → get_or rules i true ≡ true → first_broken (suc k) rules ≡ suc (k + i) → ⊥
unfolding first_broken
never-given k i [] h e = omega arith
never-given k zero (true ∷ rules) h e = none_before (suc k) (k + 0) rules (omega arith) e
never-given k (suc i) (true ∷ rules) h e =
    let n : suc (k + suc i) ≡ suc (suc k + i) = omega arith in
    never-given (suc k) i rules h (e ∙ n)
never-given k zero (false ∷ rules) h e = absurd (false≢true h)
never-given k (suc i) (false ∷ rules) h e = omega arith

-- rules of two lists
pub all_append : (xs ys : List Bool) → All xs → All ys → All (xs ++ ys)
all_append [] ys h g = g
all_append (x ∷ xs) ys h g = (h.0, all_append xs ys h.1 g)

pub all_front : (xs ys : List Bool) → All (xs ++ ys) → All xs
all_front [] ys h = tt
all_front (x ∷ xs) ys h = (h.0, all_front xs ys h.1)

pub all_back : (xs ys : List Bool) → All (xs ++ ys) → All ys
all_back [] ys h = h
all_back (x ∷ xs) ys h = all_back xs ys h.1

-- the first broken of two lists: of the second where none of the first is,
group_on : (k : ℕ) (xs ys : List Bool) → first_broken (suc k) xs ≡ 0 → first_broken (suc k) (xs ++ ys) ≡ first_broken (suc k + length xs) ys
unfolding first_broken
group_on k [] ys e = rw (add-zero (suc k))
group_on k (true ∷ xs) ys e =
    let n : suc k + suc (length xs) ≡ suc (suc k) + length xs = omega arith in
    rw n (group_on (suc k) xs ys e)
group_on k (false ∷ xs) ys e = absurd (omega arith)

-- and else of the first
group_off : (k : ℕ) (xs ys : List Bool) → (first_broken (suc k) xs ≡ 0 → ⊥) → first_broken (suc k) (xs ++ ys) ≡ first_broken (suc k) xs
unfolding first_broken
group_off k [] ys n = absurd (n refl)
group_off k (true ∷ xs) ys n = group_off (suc k) xs ys n
group_off k (false ∷ xs) ys n = refl

-- so that of two groups, where a is the code of the first,
module _ (k : ℕ) (xs ys : List Bool) {a : ℕ} (e : a ≡ first_broken (suc k) xs) where
  -- the second is asked where that is 0,
  pub to_next : a ≡ 0 → first_broken (suc k) (xs ++ ys) ≡ first_broken (suc k + length xs) ys
  to_next z = group_on k xs ys (sym e ∙ z)

  -- and else it is the code of both
  pub from_first : (a ≡ 0 → ⊥) → a ≡ first_broken (suc k) (xs ++ ys)
  from_first n = e ∙ sym (group_off k xs ys (λ z. n (e ∙ z)))

-- from rule i on: a rule that holds is passed, one that is broken is given, and past the last there is none
pub rule_on : (k : ℕ) (rules : List Bool) (i : ℕ) → i < length rules → get_or rules i false ≡ true → first_broken (k + i) (drop i rules) ≡ first_broken (k + (i + 1)) (drop (i + 1) rules)
unfolding first_broken
rule_on k rules i h e =
    let n : suc (k + i) ≡ k + suc i = omega arith in
    rw (add-one i, drop-cons rules i false h, e, n)

pub rule_off : (k : ℕ) (rules : List Bool) (i : ℕ) → i < length rules → get_or rules i false ≡ false → first_broken (k + i) (drop i rules) ≡ k + i
unfolding first_broken
rule_off k rules i h e = rw (drop-cons rules i false h, e)

pub rule_end : (k : ℕ) (rules : List Bool) (i : ℕ) → length rules ≤ i → first_broken (k + i) (drop i rules) ≡ 0
unfolding first_broken
rule_end k rules i h = rw (drop_of_length-le rules {i = i} h)
