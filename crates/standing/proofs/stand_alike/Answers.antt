-- `standing::stand_alike` meets its contract: the heights, then the places.
use mathlib.Core.Path.{◌≡◌}
use mathlib.Core.Bool.{true, false, and-true, and-false}
use Rattle.stations.specs.Stations.{position_at, ground_at}
use Rattle.standing.specs.Standing.{same_count, same_place, stand_alike}
use Rattle.standing.proofs.stand_alike.Goals as goal

pub returns-then-same_height : goal.returns-then-same_height
unfolding stand_alike
returns-then-same_height c =
    let file = c.args.file.now in
    let yes : same_count (ground_at file c.args.i).0 (ground_at file c.args.k).0 ≡ true = cc in
    let place : c.same_place.result ≡ same_place (position_at file c.args.i) (position_at file c.args.k) = cc in
    rw (yes, and-true (same_place (position_at file c.args.i) (position_at file c.args.k))) place

pub returns-else-same_height : goal.returns-else-same_height
unfolding stand_alike
returns-else-same_height c =
    let file = c.args.file.now in
    let no : same_count (ground_at file c.args.i).0 (ground_at file c.args.k).0 ≡ false = cc in
    rw (no, and-false (same_place (position_at file c.args.i) (position_at file c.args.k)))
