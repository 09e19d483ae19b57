-- Rows read a table's entries for where its fields stand, and for nothing else.
use mathlib.Core.Path.{◌≡◌, refl, ap, ◌∙◌}
use mathlib.Core.Bool.{Bool, true, false, cond, not, ◌&&◌}
use mathlib.Core.List.{List, [], ◌∷◌}
use Prim.Native.Nat.{ℕ, zero, suc, ◌-◌}
use lib.Dec.{leb, eqb}
use lib.ListN.{length, get_or, take, drop}
use Rattle.facts.specs.Facts.{fact_of}
use Rattle.walking.specs.Walks.{field_behind, stands_by, first_row}
use Rattle.rule_tables.specs.Told.{places_in}

-- the first two numbers of an entry are its place
place_kept : (e : List ℕ) → (get_or (take 2 e) 0 0 ≡ get_or e 0 0) × (get_or (take 2 e) 1 0 ≡ get_or e 1 0)
place_kept [] = (refl, refl)
place_kept (a ∷ []) = (refl, refl)
place_kept (a ∷ b ∷ e) = (refl, refl)

entry_kept : (es : List (List ℕ)) (i : ℕ) → get_or (places_in es) i [] ≡ take 2 (get_or es i [])
entry_kept [] i = refl
entry_kept (e ∷ es) zero = refl
entry_kept (e ∷ es) (suc i) = entry_kept es i

pub length-kept : (es : List (List ℕ)) → length (places_in es) ≡ length es
length-kept [] = refl
length-kept (e ∷ es) = ap suc (length-kept es)

module _ (es : List (List ℕ)) (r : List ℕ) where
  field_kept : (i : ℕ) → field_behind (places_in es) r i ≡ field_behind es r i
  field_kept i =
      let p = place_kept (get_or es i []) in
      ap (λ (e : List ℕ). take (get_or e 1 0) (drop (get_or e 0 0 - 1) r)) (entry_kept es i) ∙ (λ j. take (p.1 j) (drop (p.0 j - 1) r))

  stands_kept : (fact k want : ℕ) → stands_by (places_in es) r fact k want ≡ stands_by es r fact k want
  stands_kept fact k want = λ j.
      cond (eqb k 0) false
      (cond (leb k (length-kept es j)) (cond (eqb want 1) (fact_of fact (field_kept (k - 1) j)) (not (fact_of fact (field_kept (k - 1) j)))) false)

  -- So the first row that is broken is the same by the places alone.
  pub row_kept : (low high : ℕ) (rows : List (List ℕ)) → first_row (places_in es) r low high rows ≡ first_row es r low high rows
  unfolding first_row
  row_kept low high [] = refl
  row_kept low high (row ∷ rows) = λ j.
      let number : ℕ → ℕ = λ k. get_or row k 0 in
      cond
      (cond (leb low (number 0) && leb (number 0) high)
      (not (stands_kept (number 1) (number 2) (number 3) j && stands_kept (number 4) (number 5) (number 6) j)) true)
      (row_kept low high rows j)
      (get_or row 0 0)
