-- Standing alike cuts stations into classes.
use mathlib.Core.Bool.{and-eq-true_iff}
use mathlib.Core.List.{List}
use Prim.Native.Nat.{ℕ}
use Rattle.stations.specs.Stations.{position_at, ground_at}
use Rattle.standing.specs.Standing.{same_count, same_place, stand_alike}
use Rattle.standing.proofs.SameLaws.{count_same, same_count_lem, place_same, place_like}
use Rattle.chains.specs.Seconds.{Classes}

-- What stands as another does stands alike with all that the other does.
pub stand_classes : (file : List ℕ) → Classes (stand_alike file)
unfolding stand_alike
stand_classes file =
    record {
      itself = λ i. rw (place_same (position_at file i), count_same (ground_at file i).0);
      like = λ i j k e.
          let both = (and-eq-true_iff (same_place (position_at file j) (position_at file k)) (same_count (ground_at file j).0 (ground_at file k).0)).0 e in
          rw (place_like (position_at file i) (position_at file j) (position_at file k) both.0, same_count_lem (ground_at file j).0 (ground_at file k).0 both.1);
    }
