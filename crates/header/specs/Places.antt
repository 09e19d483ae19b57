-- Document 01, "Header codes": the columns of the fourteen fields.
use Rattle.std.specs.Prelude.{ℕ, ◌≡◌, refl, true, false, eqb, List}
use Rattle.fields.specs.Rows.{places_of}
use Rattle.basics.specs.Fields.{cut, at, tiles_from}
use Rattle.header.specs.Table.{header_table}

-- First column and length of each field, by code.
abbrev pub header_places : List (ℕ × ℕ)
header_places = places_of header_table

-- They cover columns 1 to 219 once.
pub header_tiles : tiles_from 1 header_places ≡ true
header_tiles = refl

-- The fields of a header's record, in order.
unfoldable pub header_fields : List ℕ → List (List ℕ)
header_fields r = cut header_places r

-- The number of the fax.
abbrev pub fax : ℕ
fax = 7

-- Two records differ in field number n alone: any other is the same in both.
abbrev pub DifferIn : ℕ → List ℕ → List ℕ → Type 0
DifferIn n r s = (k : ℕ) → eqb k n ≡ false → at (header_fields r) k ≡ at (header_fields s) k
