-- Codes that are kept while the stations of one file are judged, so that each is judged once.
use Rattle.std.specs.Prelude.{ℕ, ◌+◌, ◌≤◌, ◌≡◌, List, length, get_or}
use Rattle.files.specs.Files.{most_stations}
use Rattle.stations.specs.Stations.{code_at}

-- What stands for a station that is not judged yet; no code is as high.
abbrev pub unjudged : ℕ
unjudged = 255

-- One place for each number of a file: station i's code, or that it is not judged yet.
pub record Kept (file codes : List ℕ) : Type 0 where
  pub room : length codes ≡ most_stations + 1
  pub right : (i : ℕ) → i ≤ most_stations → (get_or codes i 0 ≡ unjudged → ⊥) → get_or codes i 0 ≡ code_at file i
