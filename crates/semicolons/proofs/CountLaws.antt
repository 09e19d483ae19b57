-- What a count of bytes does where texts are joined, at the last byte and at a place of a list.
use mathlib.Core.Path.{◌≡◌}
use mathlib.Core.Bool.{Bool, true}
use mathlib.Core.List.{List, [], ◌∷◌, ◌++◌}
use Prim.Native.Nat.{ℕ, ◌+◌, ◌≤◌, ◌<◌}
use native.Mathlib.Omega.{arith}
use native.Mathlib.Nat.{zero-add}
use native.Mathlib.Numerals.{add-one}
use lib.Dec.{eqb}
use lib.ListN.{length, get_or, drop, drop_of_length-le}
use lib.Seq.{drop-cons}
use borrow.Author.Tests.{eq-eqb, ne_eqb}
use Rattle.columns.specs.Texts.{how_many}
use Rattle.semicolons.specs.Lines.{last_byte}
use Rattle.semicolons.proofs.LineLaws.{last_cons}

-- Two texts, one behind the other, have the bytes of both.
pub how_many_append : (test : ℕ → Bool) (s t : List ℕ) → how_many test (s ++ t) ≡ how_many test s + how_many test t
unfolding how_many
how_many_append test [] t = omega arith
how_many_append test (c ∷ s) t = omega (arith, how_many_append test s t)

-- A text whose last byte passes a test has one that does.
pub ends_counted : (test : ℕ → Bool) (t : List ℕ) → 1 ≤ length t → test (last_byte t) ≡ true → 1 ≤ how_many test t
unfolding how_many
ends_counted test [] n e = absurd (omega arith)
ends_counted test (c ∷ []) n e = rw e (omega arith)
ends_counted test (c ∷ d ∷ t) n e = omega (arith, ends_counted test (d ∷ t) (omega arith) (rw (← last_cons c (d ∷ t) (omega arith)) e))

module _ (mark : ℕ) (s : List ℕ) (i : ℕ) where
  -- The bytes from i on that are the given one,
  abbrev pub count_from : ℕ
  count_from = how_many (λ c. eqb c mark) (drop i s)

  -- where it stands there,
  pub count_here : i < length s → get_or s i 0 ≡ mark → count_from ≡ 1 + how_many (λ c. eqb c mark) (drop (i + 1) s)
  unfolding how_many
  count_here h e = rw (add-one i, drop-cons s i 0 h, eq-eqb (get_or s i 0) mark e)

  -- where another stands there,
  pub count_other : i < length s → (get_or s i 0 ≡ mark → ⊥) → count_from ≡ how_many (λ c. eqb c mark) (drop (i + 1) s)
  unfolding how_many
  count_other h n = rw (add-one i, drop-cons s i 0 h, ne_eqb (get_or s i 0) mark n, zero-add)

  -- and past the end.
  pub count_end : length s ≤ i → count_from ≡ 0
  unfolding how_many
  count_end h = rw (drop_of_length-le s {i = i} h)
