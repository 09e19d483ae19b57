-- What respelling promises, as relations between what it is given, its answer and what it leaves.
use Rattle.basics.specs.Outcomes.{Outcome}
use Rattle.std.specs.Prelude.{ℕ, ◌≡◌, List}
use Rattle.respelling.specs.Respelling.{respell_outcome, respelled_station, respell_header_outcome, respelled_header}

-- `respell_station` of a record into a buffer.
abbrev pub StationRespelled : List ℕ → List ℕ → Outcome → List ℕ → Type 0
StationRespelled r before answer after = (answer ≡ respell_outcome r before) × (after ≡ respelled_station r before)

-- `respell_header` of a record into a buffer.
abbrev pub HeaderRespelled : List ℕ → List ℕ → Outcome → List ℕ → Type 0
HeaderRespelled r before answer after = (answer ≡ respell_header_outcome r before) × (after ≡ respelled_header r before)
