-- The place of a field: inside the record, and the piece of the record that is the field.
use mathlib.Core.Path.{◌≡◌, refl}
use mathlib.Core.Bool.{true, not, and-eq-true_iff}
use mathlib.Core.List.{List, [], ◌∷◌}
use Prim.Native.Nat.{ℕ, zero, suc, ◌+◌, ◌-◌, ◌≤◌, ◌<◌}
use native.Mathlib.Nat.{lt_of_not-le}
use native.Mathlib.Decide.{dec_le}
use native.Mathlib.Omega.{arith}
use lib.ListN.{length, get_or, take, drop}
use lib.Dec.{leb, ltb, eqb}
use borrow.Author.Tests.{eqb-true, le-leb, lt-leb, lt-ltb, le-ltb}
use Rattle.basics.specs.Fields.{record_length, cut, at, place_of, tiles_from}
use Rattle.basics.proofs.FieldLaws.{tiles_inside}
use Rattle.station.specs.Places.{station_places, station_tiles}
use Rattle.header.specs.Places.{header_tiles}
use Rattle.places.specs.Places.{places_of}

-- entry i of a tiling lies inside the record
entry_inside : (c : ℕ) (ps : List (ℕ × ℕ)) → 1 ≤ c → tiles_from c ps ≡ true → (i : ℕ) → i < length ps
    → (1 ≤ (get_or ps i (0, 0)).0) × ((get_or ps i (0, 0)).0 + (get_or ps i (0, 0)).1 ≤ record_length + 1)
entry_inside c [] h t i l = absurd (omega arith)
entry_inside c (p ∷ ps) h t zero l =
    let a = (and-eq-true_iff (eqb p.0 c) (tiles_from (c + p.1) ps)).0 t in
    let e : p.0 ≡ c = eqb-true p.0 c a.0 in
    let m : c + p.1 ≤ record_length + 1 = tiles_inside (c + p.1) ps a.1 in
    (omega arith, omega arith)
entry_inside c (p ∷ ps) h t (suc i) l =
    entry_inside (c + p.1) ps (omega arith) ((and-eq-true_iff (eqb p.0 c) (tiles_from (c + p.1) ps)).0 t).1 i (omega arith)

-- entry i of a record that is cut
cut-entry : (ps : List (ℕ × ℕ)) (r : List ℕ) (i : ℕ) → i < length ps → take (get_or ps i (0, 0)).1 (drop ((get_or ps i (0, 0)).0 - 1) r) ≡ get_or (cut ps r) i []
cut-entry [] r i l = absurd (omega arith)
cut-entry (p ∷ ps) r zero l = refl
cut-entry (p ∷ ps) r (suc i) l = cut-entry ps r i (omega arith)

-- Both tables tile the record.
pub places_tile : (k : ℕ) → tiles_from 1 (places_of k) ≡ true
unfolding places_of
places_tile zero = header_tiles
places_tile (suc k) = station_tiles

module _ (ps : List (ℕ × ℕ)) (j : ℕ) (positive : 1 ≤ j) (there : j ≤ length ps) where
  -- A field that is there lies inside the record,
  pub place_inside : tiles_from 1 ps ≡ true → (1 ≤ (place_of ps j).first) × ((place_of ps j).first + (place_of ps j).length ≤ record_length + 1)
  unfolding place_of
  place_inside t = rw (lt-ltb 0 j positive) (entry_inside 1 ps (omega arith) t (j - 1) (omega arith))

  -- and is the piece at its place.
  pub piece-there : (r : List ℕ) → take (place_of ps j).length (drop ((place_of ps j).first - 1) r) ≡ at (cut ps r) j
  unfolding place_of
  piece-there r = rw (lt-ltb 0 j positive) (cut-entry ps r (j - 1) (omega arith))

-- Only number 0 is the header.
pub not_header : (k : ℕ) → (k ≡ 0 → ⊥) → places_of k ≡ station_places
unfolding places_of
not_header zero h = absurd (h refl)
not_header (suc k) h = refl

-- at most m is not above m
pub le_not_lt : (j m : ℕ) → leb j m ≡ not (ltb m j)
le_not_lt j m = elim (dec_le j m) [ yes h ↦ rw (le-leb j m h, le-ltb m j h) | no h ↦ rw (lt-leb j m (lt_of_not-le h), lt-ltb m j (lt_of_not-le h)) ]
