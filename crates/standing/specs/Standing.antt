-- Document 02, wish 8, "One site, one place": two stations that stand at one place and one antenna height.
use Rattle.std.specs.Prelude.{is_err, ℕ, Bool, false, ◌&&◌, List, eqb, ℤ, pos, negsuc, Result, Ok, Err}
use Rattle.positions.specs.declared.Position.{Position}
use Rattle.stations.specs.Stations.{position_at, ground_at}
use Rattle.flaws.specs.declared.Flaw.{Flaw}

-- Two signed counts are equal.
abbrev pub same_count : ℤ → ℤ → Bool
same_count (pos a) (pos b) = eqb a b
same_count (pos a) (negsuc b) = false
same_count (negsuc a) (pos b) = false
same_count (negsuc a) (negsuc b) = eqb a b

-- Two positions agree in both counts of seconds.
abbrev pub same_position : Position → Position → Bool
same_position p q = same_count p.east q.east && same_count p.north q.north

-- Two stations say one place: the same position, or neither says any.
unfoldable pub same_place : Result Position Flaw → Result Position Flaw → Bool
same_place (Err wrong) b = is_err b
same_place (Ok p) (Err wrong) = false
same_place (Ok p) (Ok q) = same_position p q

-- Stations i and k stand at one place, 4C, and one height above ground, 9Y.
unfoldable pub stand_alike : List ℕ → ℕ → ℕ → Bool
stand_alike file i k = same_place (position_at file i) (position_at file k) && same_count (ground_at file i).0 (ground_at file k).0
