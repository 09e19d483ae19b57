-- Document 02, wish 9: what the stations of a file say of an operator.
use Rattle.std.specs.Prelude.{ℕ, zero, suc, ◌+◌, Bool, false, cond, List, [], ◌∷◌, ◌++◌, eqb, Option, None, Some}
use Rattle.numerals.specs.Numbers.{number}
use Rattle.forms.specs.Counting.{count}
use Rattle.stations.specs.Stations.{code_at, operator_at, transmit_at}
use Rattle.hundredths.specs.Hundredths.{hundredths_of, filled, lower_of, higher_of, with_one, extreme}
use Rattle.operator_counts.specs.declared.Heard.{Heard}
use Rattle.operator_counts.specs.declared.Tally.{Tally}

-- An operator's code is two digits, so that there are a hundred; an operator's number is what its digits say.
abbrev pub operators : ℕ
operators = 100

-- What is heard of station k of a file: nothing where it breaks a rule, else its operator, places 6 and 7 of its 13X, and its transmit frequency.
unfoldable pub heard_at : List ℕ → ℕ → Option Heard
heard_at file k = cond (eqb (code_at file k) 0) (Some (record { operator = number (operator_at file k); transmit = hundredths_of (transmit_at file k) })) None

-- A station of operator c was heard,
abbrev pub is_of : ℕ → Option Heard → Bool
is_of c None = false
is_of c (Some x) = eqb x.operator c

-- and its transmit frequency; blank where the station is another's.
abbrev pub sent_by : ℕ → Option Heard → Option ℕ
sent_by c None = None
sent_by c (Some x) = cond (eqb x.operator c) x.transmit None

-- What stations 1 to n say of operator c, where h k is what is heard of station k: the number of its stations, the number of those with a transmit
-- frequency, and the lowest and the highest of these.
unfoldable pub tally_of : (ℕ → Option Heard) → ℕ → ℕ → Tally
tally_of h n c =
    record {
      stations = count (λ k. is_of c (h k)) n;
      transmitting = count (λ k. filled (sent_by c (h k))) n;
      lowest = extreme lower_of (λ k. sent_by c (h k)) n;
      highest = extreme higher_of (λ k. sent_by c (h k)) n;
    }

-- A tally and one station more, with its transmit frequency.
unfoldable pub added_to : Tally → Option ℕ → Tally
added_to t a =
    record {
      stations = t.stations + 1;
      transmitting = t.transmitting + cond (filled a) 1 0;
      lowest = with_one lower_of a t.lowest;
      highest = with_one higher_of a t.highest;
    }

-- The tally of no station.
abbrev pub no_tally : Tally
no_tally = record { stations = 0; transmitting = 0; lowest = None; highest = None }

-- f 0 to f (k - 1), as a table holds them.
unfoldable pub tabled {ℓ} : {A : Type ℓ} → (ℕ → A) → ℕ → List A
tabled f zero = []
tabled f (suc k) = tabled f k ++ (f k ∷ [])
