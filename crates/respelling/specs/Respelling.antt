-- Document 01, "Refusal numbers", for a record that is written in its one spelling: how the calls end, and what they leave in the lent bytes.
use Rattle.std.specs.Prelude.{ℕ, List, [], ◌∷◌}
use Rattle.basics.specs.Outcomes.{if_done, first_refusal, record_test, buffer_test, rule_test, Outcome}
use Rattle.station.specs.Spelling.{spell_station}
use Rattle.station.specs.Codes.{value_of, station_code}
use Rattle.header.specs.Spelling.{spell_header}
use Rattle.header.specs.Codes.{header_value, header_code}

-- Writing a record whose code is k in the one spelling asks 6, 7 and 9.
unfoldable pub respelling : ℕ → List ℕ → List ℕ → Outcome
respelling k r out = first_refusal (record_test r ∷ buffer_test out ∷ rule_test k ∷ [])

-- It leaves the one spelling in the buffer, and on a refusal every byte as it was: of a station,
unfoldable pub respell_outcome : List ℕ → List ℕ → Outcome
respell_outcome r out = respelling (station_code r) r out

unfoldable pub respelled_station : List ℕ → List ℕ → List ℕ
respelled_station r out = if_done (respell_outcome r out) (spell_station (value_of r)) out

-- and of a header.
unfoldable pub respell_header_outcome : List ℕ → List ℕ → Outcome
respell_header_outcome r out = respelling (header_code r) r out

unfoldable pub respelled_header : List ℕ → List ℕ → List ℕ
respelled_header r out = if_done (respell_header_outcome r out) (spell_header (header_value r)) out
