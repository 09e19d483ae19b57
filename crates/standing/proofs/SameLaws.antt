-- Counts, places and heights that are the same.
use mathlib.Core.Path.{◌≡◌, refl, sym, ap, ◌∙◌}
use mathlib.Core.Bool.{Bool, true, false, false≢true, true≢false, and-eq-true_iff}
use mathlib.Core.List.{List}
use Prim.Native.Nat.{ℕ}
use lib.Dec.{eqb}
use lib.IntN.{ℤ, pos, negsuc}
use lib.ListN.{take, drop}
use borrow.Author.Tests.{eq-eqb, ne_eqb, eqb-true}
use mir.Syntax.{w64}
use mir.Val.{SFits, to_z, of_z}
use mir.Facts.{to_z-of_z}
use Rattle.positions.specs.Positions.{located_of}
use Rattle.distances.specs.Distances.{ground_of}
use Rattle.station.specs.Places.{fields_of}
use Rattle.files.specs.Files.{record_at}
use Rattle.stations.specs.Stations.{position_at, ground_at}
use Rattle.standing.specs.Standing.{same_count, same_place, stand_alike}
use Rattle.std.specs.Prelude.{Result, Ok, Err}
use Rattle.flaws.specs.declared.Flaw.{Flaw}
use Rattle.positions.specs.declared.Position.{Position}

-- A count is the same as itself,
pub count_same : (z : ℤ) → same_count z z ≡ true
count_same (pos n) = eq-eqb n n refl
count_same (negsuc n) = eq-eqb n n refl

-- and as no other.
pub same_count_lem : (a b : ℤ) → same_count a b ≡ true → a ≡ b
same_count_lem (pos m) (pos n) e = ap pos (eqb-true m n e)
same_count_lem (pos m) (negsuc n) e = absurd (false≢true e)
same_count_lem (negsuc m) (pos n) e = absurd (false≢true e)
same_count_lem (negsuc m) (negsuc n) e = ap negsuc (eqb-true m n e)

other_count : (a b : ℤ) → same_count a b ≡ false → a ≡ b → ⊥
other_count a b f q = true≢false (sym (count_same b) ∙ ap (λ (z : ℤ). same_count z b) (sym q) ∙ f)

-- Two counts in 64 bits are the same exactly if their bits are.
pub bits_same : (a b : ℤ) → SFits w64 a → SFits w64 b → eqb (of_z w64 a) (of_z w64 b) ≡ same_count a b
bits_same a b fa fb = by_case (same_count a b) refl
  where
    by_case : (x : Bool) → same_count a b ≡ x → eqb (of_z w64 a) (of_z w64 b) ≡ x
    by_case true e = eq-eqb (of_z w64 a) (of_z w64 b) (ap (λ (z : ℤ). of_z w64 z) (same_count_lem a b e))
    by_case false e = ne_eqb (of_z w64 a) (of_z w64 b) (λ q. other_count a b e (sym (to_z-of_z fa) ∙ ap (λ (n : ℕ). to_z w64 n) q ∙ to_z-of_z fb))

-- A place is the same as itself,
pub place_same : (p : Result Position Flaw) → same_place p p ≡ true
unfolding same_place
place_same (Err wrong) = refl
place_same (Ok p) = rw (count_same p.east, count_same p.north)

-- and one that is the same as another is the same as all that the other is.
pub place_like : (x p q : Result Position Flaw) → same_place p q ≡ true → same_place x p ≡ same_place x q
unfolding same_place
place_like (Err wrong) (Err other) (Err last) e = refl
place_like (Ok x) (Err other) (Err last) e = refl
place_like x (Err other) (Ok q) e = absurd (false≢true e)
place_like x (Ok p) (Err other) e = absurd (false≢true e)
place_like (Err wrong) (Ok p) (Ok q) e = refl
place_like (Ok x) (Ok p) (Ok q) e =
    let both = (and-eq-true_iff (same_count p.east q.east) (same_count p.north q.north)).0 e in
    rw (same_count_lem p.east q.east both.0, same_count_lem p.north q.north both.1)

-- Stations with the same bytes for place and height stand alike.
pub spelled_so : (file : List ℕ) (i k : ℕ) → take 15 (drop 51 (record_at file i)) ≡ take 15 (drop 51 (record_at file k)) → take 4 (drop 107 (record_at file i)) ≡ take 4 (drop 107 (record_at file k))
    → stand_alike file i k ≡ true
unfolding stand_alike position_at ground_at fields_of
spelled_so file i k p g =
    rw (p, g, place_same (located_of (take 15 (drop 51 (record_at file k)))), count_same (ground_of (take 4 (drop 107 (record_at file k)))).0)
