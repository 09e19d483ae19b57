-- Document 01, "Values and the one spelling": a record is the list of its fields, and field places are pairs of first column and length.
use Rattle.std.specs.Prelude.{ℕ, ◌+◌, ◌-◌, Bool, cond, ◌&&◌, List, [], ◌∷◌, ◌++◌, get_or, take, drop, ltb, eqb}
use Rattle.basics.specs.declared.Place.{Place}

-- A header and a station have 219 bytes each.
abbrev pub record_length : ℕ
record_length = 219

-- The columns at a place: columns count from 1.
abbrev pub piece : List ℕ → ℕ × ℕ → List ℕ
piece r p = take p.1 (drop (p.0 - 1) r)

-- A record cut at its places.
abbrev pub cut : List (ℕ × ℕ) → List ℕ → List (List ℕ)
cut [] r = []
cut (p ∷ ps) r = piece r p ∷ cut ps r

-- Field number k of them, counted from 1.
abbrev pub at : List (List ℕ) → ℕ → List ℕ
at f k = get_or f (k - 1) []

-- A table as the code keeps it, an array of two-element arrays, says these pairs.
abbrev pub pairs : List (List ℕ) → List (ℕ × ℕ)
pairs [] = []
pairs (p ∷ ps) = (get_or p 0 0, get_or p 1 0) ∷ pairs ps

-- The place of field number k; column 0 and no length where there is no such field.
unfoldable pub place_of : List (ℕ × ℕ) → ℕ → Place
place_of ps k =
    let p = cond (ltb 0 k) (get_or ps (k - 1) (0, 0)) (0, 0) in
    record { first = p.0; length = p.1 }

-- Pieces joined to a record.
abbrev pub joined : List (List ℕ) → List ℕ
joined [] = []
joined (p ∷ ps) = p ++ joined ps

-- From column c on the places cover every column up to 219 once: each begins where the one before it ends.
abbrev pub tiles_from : ℕ → List (ℕ × ℕ) → Bool
tiles_from c [] = eqb c (record_length + 1)
tiles_from c (p ∷ ps) = eqb p.0 c && tiles_from (c + p.1) ps
