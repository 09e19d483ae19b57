-- Document 01, "Refusal numbers", for a record in which one value is changed: how the calls end, and what they leave in the record.
use Rattle.std.specs.Prelude.{ℕ, List, [], ◌∷◌}
use Rattle.basics.specs.Outcomes.{if_done, first_refusal, record_test, rule_test, Outcome}
use Rattle.station.specs.Spelling.{spell_station}
use Rattle.station.specs.Codes.{value_of, station_code, typed_code}
use Rattle.station.specs.declared.Station.{Station}

-- Changing the station that a record says asks 6 and 9 of the record, then 9 of the changed station.
unfoldable pub change_outcome : (Station → Station) → List ℕ → Outcome
change_outcome change r = first_refusal (record_test r ∷ rule_test (station_code r) ∷ rule_test (typed_code (change (value_of r))) ∷ [])

-- It leaves the changed station's one spelling in the record, and on a refusal every byte as it was.
unfoldable pub changed_record : (Station → Station) → List ℕ → List ℕ
changed_record change r = if_done (change_outcome change r) (spell_station (change (value_of r))) r
