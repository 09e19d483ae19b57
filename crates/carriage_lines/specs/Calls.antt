-- Document 02, wish 6, on bytes: how filing a carriage's line as a record ends, and what it leaves.
use Rattle.std.specs.Prelude.{ℕ, not, List, [], ◌∷◌, ◌++◌, Err}
use Rattle.basics.specs.Outcomes.{if_done, Test, when, first_refusal, record_test, buffer_test, rule_test, Outcome}
use Rattle.basics.specs.declared.Refusal.TheVariants as why
use Rattle.station.specs.Codes.{value_of, station_code}
use Rattle.station.specs.Spelling.{spell_station}
use Rattle.vehicles.specs.Digits.{number_tests}
use Rattle.semicolons.specs.Fields.{none_longer}
use Rattle.carriage_lines.specs.Lines.{is_carriage_line, carriage_number, own_fields, own_places, is_mobile, carriage_record}

-- What is asked of a line and of the defaults, before the record is made: 6, 10, 11, 14, 15 and 16.
abbrev pub given_tests : List ℕ → List ℕ → List Test
given_tests t defaults =
    record_test defaults
    ∷ when (not (is_carriage_line t)) (Err why.NotALine)
    ∷ when (not (none_longer own_places (own_fields t))) (Err why.FieldTooLong)
    ∷ (number_tests (carriage_number t) ++ (when (not (is_mobile defaults)) (Err why.NotMobileDefaults) ∷ []))

-- Filing a carriage's line asks 7, then these, and last 9 with the code of the record that it makes.
abbrev pub filing_tests : List ℕ → List ℕ → List ℕ → List Test
filing_tests t defaults out = buffer_test out ∷ (given_tests t defaults ++ (rule_test (station_code (carriage_record t defaults)) ∷ []))

unfoldable pub carriage_filing : List ℕ → List ℕ → List ℕ → Outcome
carriage_filing t defaults out = first_refusal (filing_tests t defaults out)

-- It leaves the one spelling of that record's station, and on a refusal every byte as it was.
unfoldable pub filed_carriage : List ℕ → List ℕ → List ℕ → List ℕ
filed_carriage t defaults out = if_done (carriage_filing t defaults out) (spell_station (value_of (carriage_record t defaults))) out
