-- Document 02, wish 6: the station of a carriage, from its vehicle number and an owner's defaults.
use Rattle.std.specs.Prelude.{ℕ, Bool, not, ◌&&◌, List, [], ◌∷◌, ◌++◌, eqb, Option, ℤ, Err}
use Rattle.columns.specs.Texts.{bytes, same}
use Rattle.frequencies.specs.declared.Frequency.{Frequency}
use Rattle.basics.specs.Outcomes.{if_done, Test, when, first_refusal, rule_test, Outcome}
use Rattle.basics.specs.declared.Refusal.TheVariants as why
use Rattle.station.specs.Values.{empty_station}
use Rattle.station.specs.Codes.{typed_code}
use Rattle.station.specs.Setting.{with_value, with_power}
use Rattle.station.specs.declared.Station.{Station}
use Rattle.vehicles.specs.Digits.{number_tests}
use Rattle.vehicles.specs.Names.{name_of}

-- The defaults are a station that breaks no rule, and its 6A is ML.
unfoldable pub are_defaults : Station → Bool
are_defaults s = eqb (typed_code s) 0 && same (bytes "ML") s.channel.class

-- The station of a carriage: the defaults with the carriage's name (4A), and with 1A, 8B1 and 13X as given.
unfoldable pub carriage_of : List ℕ → Option Frequency → Option ℤ → List ℕ → Station → Station
carriage_of number transmit power reference s = with_value 30 (with_power (with_value 1 (with_value 9 s (name_of number)) transmit) power) reference

-- Building asks 14, 15, 16 and 9, in that order.
abbrev pub build_tests : List ℕ → Option Frequency → Option ℤ → List ℕ → Station → List Test
build_tests number transmit power reference s =
    number_tests number ++ (when (not (are_defaults s)) (Err why.NotMobileDefaults) ∷ rule_test (typed_code (carriage_of number transmit power reference s)) ∷ [])

unfoldable pub build_outcome : List ℕ → Option Frequency → Option ℤ → List ℕ → Station → Outcome
build_outcome number transmit power reference s = first_refusal (build_tests number transmit power reference s)

-- It returns the station of the carriage, and the empty one on a refusal.
unfoldable pub built_station : List ℕ → Option Frequency → Option ℤ → List ℕ → Station → Station
built_station number transmit power reference s = if_done (build_outcome number transmit power reference s) (carriage_of number transmit power reference s) empty_station
