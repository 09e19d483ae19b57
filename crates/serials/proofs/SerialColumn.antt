-- Field 12, a whole number or blank, is a kind of column.
use mathlib.Core.Path.{◌≡◌, refl}
use mathlib.Core.Bool.{true}
use Prim.Native.Nat.{ℕ, ◌^◌, ◌<◌}
use native.Mathlib.Omega.{arith}
use lib.ListN.{length, replicate}
use borrow.Author.Tests.{ltb-true, lt-ltb}
use Rattle.numerals.specs.Numbers.{whole_of, amount, whole_fits, spell_whole}
use Rattle.numerals.proofs.RoundTrip.{whole_trip}
use Rattle.columns.proofs.ColumnLaws.{Column}
use Rattle.numerals.proofs.WholeColumn.{whole_column, whole_below}
use Rattle.columns.proofs.TextLaws.{skip-spaces}
use Rattle.serials.specs.Serials.{in_serial, serial_good, serial_of, serial_fits, spell_serial}
use Rattle.std.specs.Prelude.{Option, Some, None, Result, Ok, Err}
use Rattle.numerals.specs.declared.Unread.{Unread}

-- a number that was spelt in six columns is read
spelt : (v : ℕ) → whole_fits 6 v ≡ true → whole_of (spell_whole 6 v) ≡ Ok (Some v)
spelt v e = whole_trip 6 v (omega arith) (omega arith) (ltb-true v (10 ^ 6) e)

-- spaces are no number
no_number : whole_of (replicate 6 32) ≡ Ok None
unfolding whole_of
no_number = rw (skip-spaces 6)

wide : (v : Option ℕ) → serial_fits v ≡ true → length (spell_serial v) ≡ 6
unfolding serial_fits spell_serial
wide None e = refl
wide (Some v) e = (whole_column 6 (omega arith) (omega arith)).wide v e

kept : (v : Option ℕ) → serial_fits v ≡ true → serial_good (spell_serial v) ≡ true
unfolding serial_fits spell_serial serial_good
kept None e = rw no_number
kept (Some v) e = rw (spelt v e)

back : (v : Option ℕ) → serial_fits v ≡ true → serial_of (spell_serial v) ≡ v
unfolding serial_fits spell_serial serial_of
back None e = rw no_number
back (Some v) e = rw (spelt v e)

-- a number that was read has six digits at most
read_fits : (w : Result (Option ℕ) Unread) → amount w < 10 ^ 6 → serial_fits (in_serial w) ≡ true
unfolding serial_fits
read_fits (Err bad) h = refl
read_fits (Ok None) h = refl
read_fits (Ok (Some v)) h = lt-ltb v (10 ^ 6) h

pub serial_column : Column 6 serial_good serial_of serial_fits spell_serial
unfolding serial_of
serial_column = record { wide = wide; kept = kept; back = back; read = λ p l e. read_fits (whole_of p) (rw l at (whole_below p)) }
