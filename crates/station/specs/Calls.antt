-- Document 01, "Refusal numbers": how the calls on stations end, and what they hand back and leave.
use Rattle.std.specs.Prelude.{ℕ, List, [], ◌∷◌}
use Rattle.basics.specs.Outcomes.{if_done, first_refusal, record_test, buffer_test, rule_test, judged, Outcome}
use Rattle.station.specs.Values.{empty_station}
use Rattle.station.specs.Spelling.{spell_station}
use Rattle.station.specs.Codes.{value_of, station_code, typed_code}
use Rattle.station.specs.declared.Station.{Station}

-- Reading a record uses 6 and 9.
unfoldable pub read_outcome : List ℕ → Outcome
read_outcome r = first_refusal (record_test r ∷ rule_test (station_code r) ∷ [])

-- It returns the station, and the empty one on a refusal.
unfoldable pub read_station : List ℕ → Station
read_station r = if_done (read_outcome r) (value_of r) empty_station

-- Writing into a lent buffer uses 7 and 9.
unfoldable pub write_outcome : Station → List ℕ → Outcome
write_outcome s buffer = first_refusal (buffer_test buffer ∷ rule_test (typed_code s) ∷ [])

-- It leaves the station's spelling there, and on a refusal every byte as it was.
unfoldable pub written_station : Station → List ℕ → List ℕ
written_station s buffer = if_done (write_outcome s buffer) (spell_station s) buffer

-- Setting uses 9: the changed station is judged.
unfoldable pub set_outcome : Station → Outcome
set_outcome changed = judged (typed_code changed)

-- It returns the changed station, and the one it was given on a refusal.
unfoldable pub set_station : Station → Station → Station
set_station given changed = if_done (set_outcome changed) changed given
