-- Document 02, wish 8, "One site, one place": the site part of 13X is tied to one pair of coordinates and one antenna height.
use Rattle.std.specs.Prelude.{ℕ, ◌-◌, Bool, not, ◌&&◌, List, eqb}
use Rattle.columns.specs.Texts.{same}
use Rattle.stations.specs.Stations.{code_at, site_at}
use Rattle.standing.specs.Standing.{stand_alike}
use Rattle.forms.specs.Counting.{first}

-- Station i clashes with station k: their operator and site agree while place or height differs, and neither breaks a rule.
unfoldable pub clashing : List ℕ → ℕ → ℕ → Bool
clashing file k i = same (site_at file i) (site_at file k) && (not (stand_alike file i k) && (eqb (code_at file i) 0 && eqb (code_at file k) 0))

-- Station k's clash: the lowest station before it that clashes with it, else 0.
unfoldable pub clash_at : List ℕ → ℕ → ℕ
clash_at file k = first (clashing file k) (k - 1)
