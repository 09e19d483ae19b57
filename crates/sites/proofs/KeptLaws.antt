-- Codes that are kept: none at first, then one more.
use mathlib.Core.Path.{◌≡◌, ◌∙◌}
use mathlib.Core.List.{List}
use Prim.Native.Nat.{ℕ, ◌+◌, ◌≤◌, ◌<◌}
use native.Mathlib.Decide.{ℕ_discrete}
use native.Mathlib.Omega.{arith}
use lib.ListN.{length, get_or, set, replicate, length-set, length-replicate, get_or-replicate}
use lib.Seq.{get_or-set_same, get_or-set_other}
use Rattle.files.specs.Files.{most_stations}
use Rattle.stations.specs.Stations.{code_at}
use Rattle.sites.specs.Kept.{Kept, unjudged}

-- Before any station is judged no code is kept.
pub none_kept : (file : List ℕ) → Kept file (replicate (most_stations + 1) unjudged)
none_kept file =
    record {
      room = length-replicate {A = ℕ} (most_stations + 1) unjudged;
      right = λ i l known. absurd (known (get_or-replicate {A = ℕ} (most_stations + 1) i unjudged 0 (omega arith)));
    }

-- A station's code may be kept.
pub one_kept : (file codes : List ℕ) (k own : ℕ) → k ≤ most_stations → own ≡ code_at file k → Kept file codes → Kept file (set codes k own)
one_kept file codes k own low e so_far =
    record {
      room = rw length-set so_far.room;
      right = λ i l known. at_place i l known (ℕ_discrete i k);
    }
  where
    inside : k < length codes
    inside = omega (arith, so_far.room)

    at_place : (i : ℕ) → i ≤ most_stations → (get_or (set codes k own) i 0 ≡ unjudged → ⊥) → Dec (i ≡ k) → get_or (set codes k own) i 0 ≡ code_at file i
    at_place i l known (yes q) = rw q (get_or-set_same codes k own 0 inside ∙ e)
    at_place i l known (no n) =
        let kept : get_or (set codes k own) i 0 ≡ get_or codes i 0 = get_or-set_other codes k i own 0 n in
        kept ∙ so_far.right i l (λ q. known (kept ∙ q))
