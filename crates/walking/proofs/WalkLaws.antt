-- Walking a table from its first entry or row to its last.
use mathlib.Core.Path.{◌≡◌, refl, sym, ap, ◌∙◌}
use mathlib.Core.Bool.{Bool, true, false, cond, not, ◌&&◌, true≢false}
use mathlib.Core.List.{List, [], ◌∷◌}
use Prim.Native.Nat.{ℕ, zero, suc, ◌+◌, ◌≤◌, ◌<◌}
use native.Mathlib.Numerals.{add-one}
use native.Mathlib.Omega.{arith}
use lib.Dec.{leb, eqb}
use lib.ListN.{length, get_or, drop, drop_of_length-le, get_or-eq_default}
use lib.Seq.{drop-cons}
use borrow.Author.Tests.{eq-eqb, ne_eqb, leb-true, le-leb, lt-leb}
use Rattle.columns.proofs.TextLaws.{and_split}
use Rattle.flaws.specs.Flaws.{flawless, ranged}
use Rattle.flaw_parts.specs.Parts.{flaw_with, flawless_all}
use Rattle.flaws.specs.declared.Flaw.{Flaw}
use Rattle.flaws.specs.declared.Flaw.TheVariants as flaw
use Rattle.walking.specs.Walks.{cell, stands_by, kept_by, first_row, said_behind, flaw_behind, flaws_for, flaws_by}

-- from row j on: one that is kept is passed, one that is broken is given, and past the last there is none
module _ (entries : List (List ℕ)) (r : List ℕ) (low high : ℕ) (rows : List (List ℕ)) (j : ℕ) where
  pub row_on : j < length rows → kept_by entries r low high (get_or rows j []) ≡ true → first_row entries r low high (drop j rows) ≡ first_row entries r low high (drop (j + 1) rows)
  unfolding first_row
  row_on h e = rw (add-one j, drop-cons rows j [] h, e)

  pub row_off : j < length rows → kept_by entries r low high (get_or rows j []) ≡ false → first_row entries r low high (drop j rows) ≡ get_or (get_or rows j []) 0 0
  unfolding first_row
  row_off h e = rw (drop-cons rows j [] h, e)

  pub row_end : length rows ≤ j → first_row entries r low high (drop j rows) ≡ 0
  unfolding first_row
  row_end h = rw (drop_of_length-le rows {i = j} h)

-- a flaw for each entry
module _ (entries : List (List ℕ)) (r : List ℕ) (rows : List (List ℕ)) where
  for_length : (es : List (List ℕ)) (k : ℕ) → length (flawless_all (flaws_for entries r rows es k)) ≡ length es
  for_length [] k = refl
  for_length (e ∷ es) k = ap suc (for_length es (suc k))

  pub flaws_many : length (flawless_all (flaws_by entries r rows)) ≡ length entries
  flaws_many = for_length entries 0

  for_at : (es : List (List ℕ)) (k i : ℕ) (d : Flaw) → i < length es → get_or (flaws_for entries r rows es k) i d ≡ flaw_behind entries r rows (k + i)
  for_at [] k i d h = absurd (omega arith)
  for_at (e ∷ es) k zero d h = let n : k ≡ k + 0 = omega arith in ap (flaw_behind entries r rows) n
  for_at (e ∷ es) k (suc i) d h = let n : suc k + i ≡ k + suc i = omega arith in for_at es (suc k) i d (omega arith) ∙ ap (flaw_behind entries r rows) n

  pub flaw_at : (i : ℕ) → i < length entries → get_or (flaws_by entries r rows) i flaw.None ≡ flaw_behind entries r rows i
  flaw_at i h = let n : 0 + i ≡ i = omega arith in for_at entries 0 i flaw.None h ∙ ap (flaw_behind entries r rows) n

-- a rule for each flaw
pub rules_at : (xs : List Flaw) (i : ℕ) → i < length (flawless_all xs) → get_or (flawless_all xs) i false ≡ flawless (get_or xs i flaw.None)
rules_at [] i h = absurd (omega arith)
rules_at (x ∷ xs) zero h = refl
rules_at (x ∷ xs) (suc i) h = rules_at xs i (omega arith)

pub rules_many : (xs : List Flaw) → length (flawless_all xs) ≡ length xs
rules_many [] = refl
rules_many (x ∷ xs) = ap suc (rules_many xs)

-- The flaw of a code that is a field's,
pub with_at : (xs : List Flaw) (i c : ℕ) → c ≡ suc i → i < length xs → get_or xs i flaw.None ≡ flaw_with xs c
with_at xs i c e h = first ∙ ap (flaw_with xs) (sym e) where
  first : get_or xs i flaw.None ≡ flaw_with xs (suc i)
  first = rw (le-leb (suc i) (length xs) h)

-- and of one that is above them.
pub with_above : (xs : List Flaw) (c : ℕ) → length xs < c → flaw.Between ≡ flaw_with xs c
with_above xs zero h = absurd (omega arith)
with_above xs (suc i) h = rw (lt-leb (suc i) (length xs) h)

-- The code of a row that is broken was asked for.
row_asked : (entries : List (List ℕ)) (r : List ℕ) (low high : ℕ) (row : List ℕ) → kept_by entries r low high row ≡ false → low ≤ get_or row 0 0
row_asked entries r low high row e = leb-true low (get_or row 0 0) (and_split (leb low (get_or row 0 0)) (leb (get_or row 0 0) high) (by _ _ e)).0 where
  by : (a x : Bool) → cond a x true ≡ false → a ≡ true
  by true x e = refl
  by false x e = absurd (true≢false e)

pub rows_above : (entries : List (List ℕ)) (r : List ℕ) (low high : ℕ) (rows : List (List ℕ)) → (first_row entries r low high rows ≡ 0 → ⊥) → low ≤ first_row entries r low high rows
unfolding first_row
rows_above entries r low high [] n = absurd (n refl)
rows_above entries r low high (row ∷ rows) n =
    cond_bool (kept_by entries r low high row) (λ e. rows_above entries r low high rows) (λ e m. row_asked entries r low high row e) n where
      cond_bool : (b : Bool) → (b ≡ true → (first_row entries r low high rows ≡ 0 → ⊥) → low ≤ first_row entries r low high rows)
          → (b ≡ false → (get_or row 0 0 ≡ 0 → ⊥) → low ≤ get_or row 0 0)
          → (cond b (first_row entries r low high rows) (get_or row 0 0) ≡ 0 → ⊥) → low ≤ cond b (first_row entries r low high rows) (get_or row 0 0)
      cond_bool true f g = f refl
      cond_bool false f g = g refl

-- what a unit says by itself, and what its rows say
module _ (entries : List (List ℕ)) (r : List ℕ) (rows : List (List ℕ)) (i : ℕ) where
  pub no_unit : (cell entries i 2 ≡ 6 → ⊥) → said_behind entries r i ≡ flaw_behind entries r rows i
  unfolding flaw_behind
  no_unit n = rw (ne_eqb (cell entries i 2) 6 n)

  pub unit_flawed : cell entries i 2 ≡ 6 → flawless (said_behind entries r i) ≡ false → said_behind entries r i ≡ flaw_behind entries r rows i
  unfolding flaw_behind
  unit_flawed e f = by (eqb (cell entries i 2) 6) (flawless (said_behind entries r i)) (eq-eqb (cell entries i 2) 6 e) f where
    by : (a b : Bool) → a ≡ true → b ≡ false → said_behind entries r i ≡ cond a (cond b (ranged (eqb (first_row entries r (i + 1) (i + 1) rows) 0)) (said_behind entries r i)) (said_behind entries r i)
    by a b p q = rw (p, q)

  pub unit_asked : cell entries i 2 ≡ 6 → flawless (said_behind entries r i) ≡ true → ranged (eqb (first_row entries r (i + 1) (i + 1) rows) 0) ≡ flaw_behind entries r rows i
  unfolding flaw_behind
  unit_asked e f = by (eqb (cell entries i 2) 6) (flawless (said_behind entries r i)) (eq-eqb (cell entries i 2) 6 e) f where
    by : (a b : Bool) → a ≡ true → b ≡ true → ranged (eqb (first_row entries r (i + 1) (i + 1) rows) 0) ≡ cond a (cond b (ranged (eqb (first_row entries r (i + 1) (i + 1) rows) 0)) (said_behind entries r i)) (said_behind entries r i)
    by a b p q = rw (p, q)

-- the code of the fields, and where that is 0 of the rows
pub from_fields : (x c d : ℕ) → x ≡ c → (x ≡ 0 → ⊥) → x ≡ cond (eqb c 0) d c
from_fields x c d e n = rw (ne_eqb c 0 (λ z. n (e ∙ z))) e

pub from_rows : (x c d : ℕ) → x ≡ c → x ≡ 0 → d ≡ cond (eqb c 0) d c
from_rows x c d e z = rw (eq-eqb c 0 (sym e ∙ z))
