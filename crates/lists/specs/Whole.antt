-- Document 02, wish 1: a whole list, and the records that its lines say.
use Rattle.std.specs.Prelude.{ℕ, List, [], ◌∷◌, ◌++◌}
use Rattle.station.specs.Spelling.{spell_station}
use Rattle.basics.specs.Outcomes.{if_done}
use Rattle.lists.specs.Calls.{line_outcome, station_in_line}

-- The record that a line brings in, in the one spelling; none where the line is refused.
unfoldable pub brought_in : List ℕ → List ℕ
brought_in l = if_done (line_outcome l) (spell_station (station_in_line l)) []

-- The records that some lines bring in.
abbrev pub records_of : List (List ℕ) → List ℕ
records_of [] = []
records_of (l ∷ ls) = brought_in l ++ records_of ls
