-- 8B1, 9A, 9B, 9G: decimals in tenths are a kind of column, over both digit counts, the sign and the range.
use mathlib.Core.Path.{◌≡◌, refl}
use mathlib.Core.Bool.{Bool, true, false≢true}
use mathlib.Core.List.{List}
use Prim.Native.Nat.{ℕ, ◌≤◌}
use lib.ListN.{length, length-replicate}
use lib.IntN.{ℤ}
use Rattle.numerals.specs.Numbers.{passes}
use Rattle.decimals.specs.Decimals.{decimal_of, decimal_fits, decimal_width}
use Rattle.columns.proofs.TextLaws.{and_split, and_both}
use Rattle.decimals.proofs.DecimalTrip.{decimal-length}
use Rattle.columns.proofs.ColumnLaws.{Column}
use Rattle.decimals.proofs.DecimalColumn.{HasPlaces, decimal-places, decimal_back, spaces_no_decimal}
use Rattle.formats.specs.Tenths.{in_tenths, tenths_good, tenths_of, tenths_fit, spell_tenths}
use Rattle.std.specs.Prelude.{Option, Some, None, Result, Ok, Err}
use Rattle.flaws.specs.declared.Flaw.{Flaw}

module _ (a b : ℕ) (sign : Bool) (range : ℤ → Bool) (one : 1 ≤ b) where
  tenths_wide : (v : Option ℤ) → length (spell_tenths a b sign v) ≡ decimal_width a b sign
  unfolding spell_tenths
  tenths_wide None = length-replicate (decimal_width a b sign) 32
  tenths_wide (Some z) = decimal-length a b sign z

  tenths_kept : (v : Option ℤ) → tenths_fit a b sign range v ≡ true → tenths_good a b sign range (spell_tenths a b sign v) ≡ true
  unfolding spell_tenths tenths_good tenths_fit
  tenths_kept None e = rw (spaces_no_decimal a b sign (decimal_width a b sign))
  tenths_kept (Some z) e =
      let h = and_split (decimal_fits a b sign z) (range z) e in
      rw (decimal_back a b sign z one h.0) h.1

  tenths_back : (v : Option ℤ) → tenths_fit a b sign range v ≡ true → tenths_of a b sign (spell_tenths a b sign v) ≡ v
  unfolding spell_tenths tenths_of tenths_fit
  tenths_back None e = rw (spaces_no_decimal a b sign (decimal_width a b sign))
  tenths_back (Some z) e = rw (decimal_back a b sign z one (and_split (decimal_fits a b sign z) (range z) e).0)

  tenths_fits : (d : Result (Option ℤ) Flaw) → HasPlaces a b sign d → passes range d ≡ true → tenths_fit a b sign range (in_tenths d) ≡ true
  unfolding tenths_fit
  tenths_fits (Err wrong) h e = absurd (false≢true e)
  tenths_fits (Ok None) h e = refl
  tenths_fits (Ok (Some z)) h e = and_both (decimal_fits a b sign z) (range z) h e

  tenths_read : (p : List ℕ) → tenths_good a b sign range p ≡ true → tenths_fit a b sign range (tenths_of a b sign p) ≡ true
  unfolding tenths_good tenths_of
  tenths_read p e = tenths_fits (decimal_of a b sign p) (decimal-places a b sign p) e

  pub tenths_column : Column (decimal_width a b sign) (tenths_good a b sign range) (tenths_of a b sign) (tenths_fit a b sign range) (spell_tenths a b sign)
  tenths_column = record { wide = λ v e. tenths_wide v; kept = tenths_kept; back = tenths_back; read = λ p l e. tenths_read p e }
