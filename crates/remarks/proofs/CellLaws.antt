-- The cell of 13Z, asked byte after byte: a byte is a hex digit, or a space behind nothing but spaces.
use mathlib.Core.Path.{◌≡◌, refl, ap, sym, ◌∙◌}
use mathlib.Core.Bool.{Bool, true, false, cond, ◌&&◌, ◌||◌, and_assoc, and-true, or-false}
use mathlib.Core.List.{List, [], ◌∷◌}
use Prim.Native.Nat.{ℕ, suc, ◌+◌, ◌≤◌, ◌<◌}
use native.Mathlib.Numerals.{add-one}
use lib.Dec.{eqb}
use lib.ListN.{length, get_or, drop, drop_of_length-le}
use lib.Seq.{drop-cons}
use borrow.Author.Tests.{eqb-true}
use Rattle.columns.specs.Sets.{is_hex}
use Rattle.columns.specs.Texts.{skip, every}

-- What is left of the cell keeps its rule, behind a byte b.
abbrev pub cell_behind : ℕ → List ℕ → Bool
cell_behind b t = cond (eqb b 32) (every is_hex (skip t)) (every is_hex t)

-- a space is no hex digit
space_no_hex : (c : ℕ) → eqb c 32 ≡ true → is_hex c ≡ false
unfolding is_hex
space_no_hex c e = rw (eqb-true c 32 e)

one_more : (b c : ℕ) (t : List ℕ) → cell_behind b (c ∷ t) ≡ ((is_hex c || (eqb c 32 && eqb b 32)) && cell_behind c t)
unfolding skip every
one_more b c t = by (eqb b 32) (eqb c 32) refl where
  by : (x y : Bool) → eqb c 32 ≡ y → cond x (every is_hex (cond y (skip t) (c ∷ t))) (is_hex c && every is_hex t) ≡ ((is_hex c || (y && x)) && cond y (every is_hex (skip t)) (every is_hex t))
  by true true e = rw (space_no_hex c e)
  by true false e = rw (or-false (is_hex c))
  by false true e = rw (space_no_hex c e)
  by false false e = rw (or-false (is_hex c))

module _ (s : List ℕ) (i b : ℕ) (all : Bool) where
  -- the byte at i is asked with what was found so far,
  pub cell_next : i < length s → let c = get_or s i 0 in (all && cell_behind b (drop i s)) ≡ ((all && (is_hex c || (eqb c 32 && eqb b 32))) && cell_behind c (drop (i + 1) s))
  cell_next h =
      let c = get_or s i 0 in
      rw (add-one i, drop-cons s i 0 h, one_more b c (drop (suc i) s)) (sym (and_assoc all (is_hex c || (eqb c 32 && eqb b 32)) (cell_behind c (drop (suc i) s))))

  -- and past the end nothing is
  pub cell-done : length s ≤ i → (all && cell_behind b (drop i s)) ≡ all
  cell-done h = rw (drop_of_length-le s h) (ap (λ (x : Bool). all && x) (by (eqb b 32)) ∙ and-true all) where
    by : (x : Bool) → cond x (every is_hex (skip [])) (every is_hex []) ≡ true
    by true = unfold skip every in refl
    by false = unfold every in refl
