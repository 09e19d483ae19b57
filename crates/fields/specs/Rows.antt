-- A table of fields, and what it gives: places, rules, values and spelling. Stations and headers have one each.
use Rattle.std.specs.Prelude.{ℕ, zero, suc, Bool, List, [], ◌∷◌, get_or}
use Prim.Native.String.{String}
use Rattle.fields.specs.Kinds.{Kind, remarks, Meaning, meaning}

-- A row: the field's name, its first column, its length and its kind.
pub record Row : Type 0 where
  pub name : String
  pub first : ℕ
  pub length : ℕ
  pub kind : Kind

abbrev pub field : String → ℕ → ℕ → Kind → Row
field n c l k = record { name = n; first = c; length = l; kind = k }

-- What a row means.
abbrev pub meant : Row → Meaning
meant r = meaning r.kind r.length

-- The places of the fields.
abbrev pub places_of : List Row → List (ℕ × ℕ)
places_of [] = []
places_of (r ∷ rs) = (r.first, r.length) ∷ places_of rs

-- The rules of a record's fields f, from field number k on.
abbrev pub rules_from : ℕ → List Row → List (List ℕ) → List Bool
rules_from k [] f = []
rules_from k (r ∷ rs) f = (meant r).good f k ∷ rules_from (suc k) rs f

-- A value for each row,
abbrev pub Values : List Row → Type 0
Values [] = Unit {0}
Values (r ∷ rs) = (meant r).Value × Values rs

-- written one after another.
infixr 5 ◌&◌
abbrev pub ◌&◌ : {A B : Type 0} → A → B → A × B
a & b = (a, b)

-- The values that a record's fields f say, from field number k on,
abbrev pub values_from : ℕ → (t : List Row) → List (List ℕ) → Values t
values_from k [] f = tt
values_from k (r ∷ rs) f = (meant r).value f k & values_from (suc k) rs f

-- and those of an empty record.
abbrev pub empty_of : (t : List Row) → Values t
empty_of [] = tt
empty_of (r ∷ rs) = (meant r).empty & empty_of rs

-- The rules of typed values
abbrev pub fits_of : (t : List Row) → Values t → List Bool
fits_of [] v = []
fits_of (r ∷ rs) v = (meant r).fits v.0 ∷ fits_of rs v.1

-- and their spelling.
abbrev pub spelt_of : (t : List Row) → Values t → List (List ℕ)
spelt_of [] v = []
spelt_of (r ∷ rs) v = (meant r).spelt v.0 ∷ spelt_of rs v.1

-- Row number i + 1; where there is none, one that holds nothing.
abbrev pub row_behind : List Row → ℕ → Row
row_behind t i = get_or t i (field "" 0 0 remarks)

-- The value in that row,
abbrev pub value_behind : (t : List Row) → Values t → (i : ℕ) → (meant (row_behind t i)).Value
value_behind [] v i = []
value_behind (r ∷ rs) v zero = v.0
value_behind (r ∷ rs) v (suc i) = value_behind rs v.1 i

-- and the values with another one there.
abbrev pub put_behind : (t : List Row) → Values t → (i : ℕ) → (meant (row_behind t i)).Value → Values t
put_behind [] v i x = v
put_behind (r ∷ rs) v zero x = x & v.1
put_behind (r ∷ rs) v (suc i) x = v.0 & put_behind rs v.1 i x
