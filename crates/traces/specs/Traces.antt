-- Document 02, wish 11: the day's saves as a recorded trace, 222 bytes each, three digits for the record number, then the record.
use Rattle.std.specs.Prelude.{ℕ, zero, suc, ◌+◌, ◌-◌, ◌*◌, ◌/◌, Bool, not, cond, ◌&&◌, List, [], ◌∷◌, ◌++◌, length, take, drop, eqb}
use Rattle.columns.specs.Sets.{is_digit}
use Rattle.columns.specs.Texts.{sized, every}
use Rattle.numerals.specs.Numbers.{whole_of, amount}
use Rattle.basics.specs.Fields.{record_length}
use Rattle.forms.specs.Counting.{first}

abbrev pub saved_digits : ℕ
saved_digits = 3

abbrev pub save_length : ℕ
save_length = saved_digits + record_length

-- Save number i, counted from 1; the last may be cut short.
unfoldable pub save_at : List ℕ → ℕ → List ℕ
save_at trace i = take save_length (drop (save_length * (i - 1)) trace)

-- The record number that a save has, and its record.
unfoldable pub saved_number : List ℕ → ℕ
saved_number save = amount (whole_of (take saved_digits save))

unfoldable pub saved_record : List ℕ → List ℕ
saved_record save = drop saved_digits save

-- A save that runs: it is not cut short, and its first three bytes are digits.
unfoldable pub can_run : List ℕ → Bool
can_run save = sized save_length save && every is_digit (take saved_digits save)

-- How many saves begin in a trace: the whole ones, and a last one cut short.
unfoldable pub begun : List ℕ → ℕ
begun trace = (length trace + (save_length - 1)) / save_length

-- The save that a run stops at, the first that cannot run, or 0;
unfoldable pub stops_at : List ℕ → ℕ
stops_at trace = first (λ i. not (can_run (save_at trace i))) (begun trace)

-- the saves before it run, or all of them.
unfoldable pub ran_of : List ℕ → ℕ
ran_of trace = cond (eqb (stops_at trace) 0) (begun trace) (stops_at trace - 1)

-- The replacements that the first m saves ask for, in order.
unfoldable pub asked : List ℕ → ℕ → List (ℕ × List ℕ)
asked trace zero = []
asked trace (suc m) = asked trace m ++ ((saved_number (save_at trace (suc m)), saved_record (save_at trace (suc m))) ∷ [])
