-- The first station before another that bears its key, among those that take part; and chains of the first bearers, one for each slot.
use Rattle.std.specs.Prelude.{ℕ, zero, suc, ◌+◌, ◌-◌, ◌<◌, ◌≡◌, Bool, true, cond, ◌&&◌, List, length, get_or, eqb}
use Rattle.columns.specs.Texts.{same}
use Rattle.files.specs.Files.{most_stations}
use Rattle.chains.specs.declared.chaining.Chain.{Chain}
use Rattle.forms.specs.Counting.{first}

-- A search: which stations take part, the key of each, and the slot of a key.
pub record Search : Type 0 where
  pub takes : ℕ → Bool
  pub key : ℕ → List ℕ
  pub slot : List ℕ → ℕ

-- The highest of 1 to n that passes, or 0.
abbrev pub last : (ℕ → Bool) → ℕ → ℕ
last test zero = 0
last test (suc n) = cond (test (suc n)) (suc n) (last test n)

-- Station i takes part and bears the key of station k.
unfoldable pub bears : Search → ℕ → ℕ → Bool
bears s k i = s.takes i && same (s.key i) (s.key k)

-- The first station before k that does, else 0.
unfoldable pub first_bearer : Search → ℕ → ℕ
first_bearer s k = first (bears s k) (k - 1)

-- Station j takes part and is the first with its key,
unfoldable pub leads : Search → ℕ → Bool
leads s j = s.takes j && eqb (first_bearer s j) 0

-- and then it is in the chain of its key's slot.
unfoldable pub chained : Search → ℕ → ℕ → Bool
chained s h j = leads s j && eqb (s.slot (s.key j)) h

-- How many slots there are, and how many numbers records have, the header being 0.
abbrev pub slots : ℕ
slots = 256

abbrev pub record_numbers : ℕ
record_numbers = most_stations + 1

-- Each station to m that is in a chain has the next lower one of its chain in nexts, or 0.
unfoldable pub Linked : Search → List ℕ → ℕ → Type 0
Linked s nexts m = (i h : ℕ) → i < m → chained s h (suc i) ≡ true → get_or nexts (suc i) 0 ≡ last (chained s h) i

-- The first m stations are chained: heads has the highest one of each slot, or 0.
pub record Chains (s : Search) (chain : Chain) (m : ℕ) : Type 0 where
  pub heads_size : length chain.heads ≡ slots
  pub nexts_size : length chain.nexts ≡ record_numbers
  pub tops : (h : ℕ) → h < slots → get_or chain.heads h 0 ≡ last (chained s h) m
  pub links : Linked s chain.nexts m
