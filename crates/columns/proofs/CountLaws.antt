-- Counting the bytes that pass a test.
use mathlib.Core.Path.{◌≡◌, refl}
use mathlib.Core.Bool.{Bool, true, false, cond}
use mathlib.Core.List.{List}
use Prim.Native.Nat.{ℕ, ◌+◌}
use native.Mathlib.Nat.{zero-add}
use Rattle.std.specs.List.{count_by}
use Rattle.std.proofs.lemmas.List.Recursion.{is_count_by}
use Rattle.columns.specs.Texts.{how_many}

-- the library counts the same bytes
pub how_many-count_by : (test : ℕ → Bool) (s : List ℕ) → how_many test s ≡ count_by test s
unfolding how_many
how_many-count_by test s = is_count_by (how_many test) test refl (λ x xs. by (test x) (how_many test xs)) s where
  by : (b : Bool) (n : ℕ) → cond b 1 0 + n ≡ cond b (1 + n) n
  by true n = refl
  by false n = zero-add n
