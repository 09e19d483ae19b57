-- Document 02, wish 13: a record judged by two tables of numbers. An entry is first column, length, kind, lowest, highest, and 1 where the field may be blank; a row is
-- a code and two facts, each a fact's number, a field's number, and 1 where it is to stand.
use Rattle.std.specs.Prelude.{ℕ, suc, ◌+◌, ◌-◌, Bool, true, false, cond, not, ◌&&◌, List, [], ◌∷◌, leb, eqb, length, get_or, take, drop}
use Rattle.basics.specs.Rules.{first_broken}
use Rattle.flaws.specs.Flaws.{flawless, ranged}
use Rattle.flaws.specs.declared.Flaw.{Flaw}
use Rattle.flaw_parts.specs.Parts.{flawless_all}
use Rattle.entries.specs.Entries.{entry_flaw}
use Rattle.facts.specs.Facts.{fact_of}

-- Number j of entry or row i.
abbrev pub cell : List (List ℕ) → ℕ → ℕ → ℕ
cell table i j = get_or (get_or table i []) j 0

module _ (entries : List (List ℕ)) (r : List ℕ) where
  -- Field i of a record, counted from 0.
  abbrev pub field_behind : ℕ → List ℕ
  field_behind i = take (cell entries i 1) (drop (cell entries i 0 - 1) r)

  -- A fact of field number k stands, or does not, as it is wanted.
  abbrev pub stands_by : ℕ → ℕ → ℕ → Bool
  stands_by fact k want =
      cond (eqb k 0) false
      (cond (leb k (length entries)) (cond (eqb want 1) (fact_of fact (field_behind (k - 1))) (not (fact_of fact (field_behind (k - 1))))) false)

  -- A row is kept where its two facts do not stand together; codes outside of low to high are not asked.
  abbrev pub kept_by : ℕ → ℕ → List ℕ → Bool
  kept_by low high row =
      let number : ℕ → ℕ = λ j. get_or row j 0 in
      cond (leb low (number 0) && leb (number 0) high)
      (not (stands_by (number 1) (number 2) (number 3) && stands_by (number 4) (number 5) (number 6))) true

  -- The code of the first row that is broken.
  unfoldable pub first_row : ℕ → ℕ → List (List ℕ) → ℕ
  first_row low high [] = 0
  first_row low high (row ∷ rows) = cond (kept_by low high row) (first_row low high rows) (get_or row 0 0)

  -- What entry i says of its field by itself.
  abbrev pub said_behind : ℕ → Flaw
  said_behind i = let number : ℕ → ℕ = cell entries i in entry_flaw (number 2) (number 1) (number 3) (number 4) (number 5) (field_behind i)

  module _ (rows : List (List ℕ)) where
    -- The flaw of field i, counted from 0. A unit that has none by itself is outside its range where a row of its code is broken.
    unfoldable pub flaw_behind : ℕ → Flaw
    flaw_behind i = cond (eqb (cell entries i 2) 6) (cond (flawless (said_behind i)) (ranged (eqb (first_row (i + 1) (i + 1) rows) 0)) (said_behind i)) (said_behind i)

    -- The flaws of the fields from i on, as many as there are entries left,
    abbrev pub flaws_for : List (List ℕ) → ℕ → List Flaw
    flaws_for [] i = []
    flaws_for (e ∷ es) i = flaw_behind i ∷ flaws_for es (suc i)

    -- of all fields,
    abbrev pub flaws_by : List Flaw
    flaws_by = flaws_for entries 0

    -- and the first broken code: that of a field, or else of a row above the fields.
    abbrev pub code_by : ℕ
    code_by = let c = first_broken 1 (flawless_all flaws_by) in cond (eqb c 0) (first_row (length entries + 1) 255 rows) c
