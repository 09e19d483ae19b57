-- The fields of a line that are not too long fill a record's columns.
use mathlib.Core.Path.{◌≡◌, refl, ap}
use mathlib.Core.Bool.{true}
use mathlib.Core.List.{List, [], ◌∷◌}
use Prim.Native.Nat.{ℕ, zero, suc, ◌+◌, ◌-◌, ◌≤◌}
use native.Mathlib.Omega.{arith}
use lib.Dec.{leb}
use lib.ListN.{length, length-append, length-replicate}
use borrow.Author.Tests.{leb-true}
use Rattle.columns.proofs.TextLaws.{and_split}
use Rattle.basics.specs.Fields.{record_length, joined}
use Rattle.station.specs.Places.{station_places}
use Rattle.semicolons.specs.Fields.{station_sides, missing, padded_field, padded_fields, none_longer}
use Rattle.semicolons.specs.Lines.{split, line_fields, record_of}
use Rattle.semicolons.specs.declared.Side.{Side}
use Rattle.semicolons.specs.declared.Side.TheVariants as side

-- a field that is not too long is padded to its columns
pub padded_length : (s : Side) (w : ℕ) (p : List ℕ) → length p ≤ w → length (padded_field s w p) ≡ w
unfolding padded_field
padded_length side.Left w p h = omega (arith, length-append (missing w p) p, length-replicate {A = ℕ} (w - length p) 32)
padded_length side.Right w p h = omega (arith, length-append p (missing w p), length-replicate {A = ℕ} (w - length p) 32)
padded_length side.Kept w p h = omega (arith, length-append p (missing w p), length-replicate {A = ℕ} (w - length p) 32)

-- the columns of all places
abbrev pub columns_of : List (ℕ × ℕ) → ℕ
columns_of [] = 0
columns_of (q ∷ qs) = q.1 + columns_of qs

-- so that the fields together fill them
padded_joined : (ss : List Side) (qs : List (ℕ × ℕ)) (ps : List (List ℕ)) → length ss ≡ length qs → length ps ≡ length qs → none_longer qs ps ≡ true → length (joined (padded_fields ss qs ps)) ≡ columns_of qs
padded_joined [] [] ps m n h = refl
padded_joined [] (q ∷ qs) ps m n h = absurd (omega arith)
padded_joined (s ∷ ss) [] ps m n h = refl
padded_joined (s ∷ ss) (q ∷ qs) [] m n h = absurd (omega arith)
padded_joined (s ∷ ss) (q ∷ qs) (p ∷ ps) m n h =
    let g = and_split (leb (length p) q.1) (none_longer qs ps) h in
    let front = padded_field s q.1 p in
    let rest = joined (padded_fields ss qs ps) in
    omega (arith, length-append front rest, padded_length s q.1 p (leb-true (length p) q.1 g.0), padded_joined ss qs ps (omega arith) (omega arith) g.1)

split-length : (k : ℕ) (t : List ℕ) → length (split k t) ≡ k
unfolding split
split-length zero t = refl
split-length (suc k) t = ap suc (split-length k _)

pub record_length_lem : (t : List ℕ) → none_longer station_places (line_fields t) ≡ true → length (record_of t) ≡ record_length
unfolding record_of line_fields
record_length_lem t h = padded_joined station_sides station_places (split 30 t) refl (split-length 30 t) h
