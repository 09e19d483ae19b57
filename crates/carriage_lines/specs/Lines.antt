-- Document 02, wish 6, on bytes: the line of a carriage, and the record that it makes of an owner's defaults.
use Rattle.std.specs.Prelude.{ℕ, zero, suc, ◌-◌, Bool, not, ◌&&◌, List, [], ◌∷◌, ◌++◌, take, drop, get_or, eqb}
use Rattle.columns.specs.Texts.{bytes, same}
use Rattle.basics.specs.Fields.{at, joined}
use Rattle.station.specs.Places.{station_places, fields_of}
use Rattle.station.specs.Codes.{station_code}
use Rattle.vehicles.specs.Names.{name_of}
use Rattle.semicolons.specs.Fields.{station_sides, padded_fields}
use Rattle.semicolons.specs.Lines.{before, behind, marked_with}
use Rattle.semicolons.specs.declared.Side.{Side}
use Rattle.semicolons.specs.declared.Side.TheVariants as side

-- A carriage's line has four semicolons and one line feed, the last byte.
unfoldable pub is_carriage_line : List ℕ → Bool
is_carriage_line t = marked_with 4 t

-- What is left of a line behind its first k fields,
unfoldable pub behind_fields : ℕ → List ℕ → List ℕ
behind_fields zero t = t
behind_fields (suc k) t = behind (behind_fields k t)

-- and the field that begins there.
unfoldable pub field_behind : ℕ → List ℕ → List ℕ
field_behind k t = before (behind_fields k t)

-- The first one is the vehicle number,
abbrev pub carriage_number : List ℕ → List ℕ
carriage_number t = field_behind 0 t

-- and the others are the carriage's 1A, the unit of 1A, 8B1 and 13X:
abbrev pub own_fields : List ℕ → List (List ℕ)
own_fields t = field_behind 1 t ∷ field_behind 2 t ∷ field_behind 3 t ∷ field_behind 4 t ∷ []

-- fields 1, 2, 15 and 30 of a station,
abbrev pub own : {A : Type 0} → A → List A → List A
own none xs = get_or xs 0 none ∷ get_or xs 1 none ∷ get_or xs 14 none ∷ get_or xs 29 none ∷ []

abbrev pub own_places : List (ℕ × ℕ)
own_places = own (0, 0) station_places

abbrev pub own_sides : List Side
own_sides = own side.Left station_sides

-- each padded to its columns.
abbrev pub own_pieces : List ℕ → List (List ℕ)
own_pieces t = padded_fields own_sides own_places (own_fields t)

-- Fields with another one as field number k.
abbrev pub with_field : ℕ → List ℕ → List (List ℕ) → List (List ℕ)
with_field k p f = take (k - 1) f ++ (p ∷ drop k f)

-- The fields of a carriage's station: those of the defaults, with the carriage's name and its own four.
unfoldable pub carriage_pieces : List ℕ → List ℕ → List (List ℕ)
carriage_pieces t defaults =
    let p = own_pieces t in
    with_field 30 (at p 4) (with_field 15 (at p 3) (with_field 9 (name_of (carriage_number t)) (with_field 2 (at p 2) (with_field 1 (at p 1) (fields_of defaults)))))

-- The record that they make.
unfoldable pub carriage_record : List ℕ → List ℕ → List ℕ
carriage_record t defaults = joined (carriage_pieces t defaults)

-- A record that breaks no rule, and its 6A is ML.
unfoldable pub is_mobile : List ℕ → Bool
is_mobile r = eqb (station_code r) 0 && same (bytes "ML") (at (fields_of r) 4)
