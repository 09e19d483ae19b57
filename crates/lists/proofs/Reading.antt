-- What is read from a line that is not refused: a station that breaks no rule.
use Rattle.std.specs.Prelude.{Ok}
use mathlib.Core.Path.{◌≡◌, refl, ap}
use mathlib.Core.Bool.{true}
use mathlib.Core.List.{List}
use Prim.Native.Nat.{ℕ}
use lib.Dec.{eqb}
use borrow.Author.Tests.{eqb-true, not-false}
use Rattle.basics.specs.Outcomes.{refusal, if_done}
use Rattle.basics.proofs.RefusalLaws.{done, none_applies}
use Rattle.station.specs.Places.{station_places}
use Rattle.station.specs.Codes.{value_of, station_code, typed_code}
use Rattle.station.proofs.RoundTrip.{read_fits}
use Rattle.semicolons.specs.Fields.{none_longer}
use Rattle.semicolons.specs.Lines.{line_of, line_fields, record_of}
use Rattle.lists.specs.Calls.{line_tests, line_outcome, station_in_line}
use Rattle.semicolons.proofs.WidthLaws.{record_length_lem}
use Rattle.lists.proofs.RoundTrip.{line_back}

-- the tests that a line that is not refused has passed
tests_passed : (t : List ℕ) → line_outcome t ≡ Ok tt → (none_longer station_places (line_fields t) ≡ true) × (eqb (station_code (record_of t)) 0 ≡ true)
unfolding line_outcome refusal
tests_passed t e =
    let none = none_applies (line_tests t) refl (ap done e) in
    (not-false _ none.1.0, not-false _ none.1.1.0)

-- so that the record that it says breaks no rule, and says its station
pub line_code : (t : List ℕ) → line_outcome t ≡ Ok tt → station_code (record_of t) ≡ 0
line_code t e = eqb-true (station_code (record_of t)) 0 (tests_passed t e).1

pub line_value : (t : List ℕ) → line_outcome t ≡ Ok tt → station_in_line t ≡ value_of (record_of t)
unfolding station_in_line if_done refusal
line_value t e = rw e

-- A line that is not refused is read as a station that breaks no rule,
pub line_fits : (t : List ℕ) → line_outcome t ≡ Ok tt → typed_code (station_in_line t) ≡ 0
line_fits t e =
    rw (line_value t e) (read_fits (record_of t) (record_length_lem t (tests_passed t e).0) (line_code t e))

-- which, written as a line and read again, is the same.
pub line_again : (t : List ℕ) → line_outcome t ≡ Ok tt → station_in_line (line_of (station_in_line t)) ≡ station_in_line t
line_again t e = line_back (station_in_line t) (line_fits t e)
