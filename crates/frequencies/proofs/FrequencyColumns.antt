-- The station's kinds of column: each reads back what it writes, and writes what it reads. One instance of the four laws for each.
use mathlib.Core.Path.{◌≡◌, refl, ap}
use mathlib.Core.Bool.{Bool, true, false, not, ◌&&◌, false≢true}
use mathlib.Core.List.{List, [], ◌∷◌}
use Prim.Native.Nat.{ℕ, ◌+◌, ◌^◌}
use native.Mathlib.Omega.{arith}
use lib.Dec.{ltb}
use lib.ListN.{length}
use lib.IntN.{ℤ, pos, nat_abs}
use Rattle.columns.specs.Sets.{among}
use Rattle.columns.specs.Texts.{head, skip, blank, each}
use Rattle.numerals.specs.Numbers.{passes, is_negative}
use Rattle.decimals.specs.Decimals.{decimal_of, decimal_fits, spell_decimal}
use Rattle.columns.proofs.TextLaws.{and_split}
use Rattle.decimals.proofs.DecimalTrip.{decimal-length}
use Rattle.decimals.proofs.DecimalColumn.{HasPlaces, decimal-places, decimal_back, spaces_no_decimal}
use Rattle.frequencies.specs.Frequencies.{above_zero, amount_good, unit_good, unit_of, unit_letter, in_unit, frequency_of, frequency_fits, spell_amount, spell_unit}
use Rattle.frequencies.specs.declared.Hertz.{Hertz}
use Rattle.frequencies.specs.declared.Hertz.TheVariants as hertz
use Rattle.frequencies.specs.declared.Frequency.{Frequency}
use Rattle.std.specs.Prelude.{Option, Some, None, Result, Ok, Err}
use Rattle.flaws.specs.declared.Flaw.{Flaw}

-- ---- 1A and 1Y: a frequency has two fields, its amount and its unit

-- The four laws over two fields that say one value together.
pub record Pair {A : Type 0} (w₁ w₂ : ℕ) (good₁ : List ℕ → Bool) (good₂ : List ℕ → List ℕ → Bool) (value : List ℕ → List ℕ → A) (fits : A → Bool) (spelt₁ spelt₂ : A → List ℕ) : Type 0 where
  pub wide₁ : (v : A) → length (spelt₁ v) ≡ w₁
  pub wide₂ : (v : A) → length (spelt₂ v) ≡ w₂
  pub kept₁ : (v : A) → fits v ≡ true → good₁ (spelt₁ v) ≡ true
  pub kept₂ : (v : A) → fits v ≡ true → good₂ (spelt₁ v) (spelt₂ v) ≡ true
  pub back : (v : A) → fits v ≡ true → value (spelt₁ v) (spelt₂ v) ≡ v
  pub read : (p q : List ℕ) → good₁ p ≡ true → fits (value p q) ≡ true

amount_wide : (v : Option Frequency) → length (spell_amount v) ≡ 11
unfolding spell_amount
amount_wide None = refl
amount_wide (Some f) = decimal-length 5 5 false (pos f.amount)

unit_wide : (v : Option Frequency) → length (spell_unit v) ≡ 1
unfolding spell_unit
unit_wide None = refl
unit_wide (Some f) = refl

amount_trip : (n : ℕ) → (decimal_fits 5 5 false (pos n) && above_zero (pos n)) ≡ true → (decimal_of 5 5 false (spell_decimal 5 5 false (pos n)) ≡ Ok (Some (pos n))) × (above_zero (pos n) ≡ true)
amount_trip n e =
    let h = and_split (decimal_fits 5 5 false (pos n)) (above_zero (pos n)) e in
    (decimal_back 5 5 false (pos n) (omega arith) h.0, h.1)

amount-kept : (v : Option Frequency) → frequency_fits v ≡ true → amount_good (spell_amount v) ≡ true
unfolding spell_amount amount_good frequency_fits
amount-kept None e = rw (spaces_no_decimal 5 5 false 11)
amount-kept (Some f) e = let h = amount_trip f.amount e in rw h.0 h.1

-- an amount that is filled is not blank
not-blank : (a b : ℕ) (sign : Bool) (p : List ℕ) (z : ℤ) → decimal_of a b sign p ≡ Ok (Some z) → blank p ≡ false
unfolding decimal_of
not-blank a b sign p z e = by (blank p) refl where
  by : (r : Bool) → blank p ≡ r → r ≡ false
  by true q = let w : (Ok None) ≡ Ok (Some z) = rw q at e in cc
  by false q = refl

unit_back : (u : Hertz) → (each (among "kMG" ∷ []) (unit_letter u ∷ []) ≡ true) × (unit_of (unit_letter u) ≡ u)
unfolding each among unit_letter unit_of
unit_back hertz.Kilo = (refl, refl)
unit_back hertz.Mega = (refl, refl)
unit_back hertz.Giga = (refl, refl)

unit_kept : (v : Option Frequency) → frequency_fits v ≡ true → unit_good (spell_amount v) (spell_unit v) ≡ true
unfolding spell_amount spell_unit unit_good frequency_fits
unit_kept None e = unfold skip each in refl
unit_kept (Some f) e = rw (not-blank 5 5 false (spell_decimal 5 5 false (pos f.amount)) (pos f.amount) (amount_trip f.amount e).0) (unit_back f.unit).0

frequency_back : (v : Option Frequency) → frequency_fits v ≡ true → frequency_of (spell_amount v) (spell_unit v) ≡ v
unfolding spell_amount spell_unit frequency_of frequency_fits
frequency_back None e = rw (spaces_no_decimal 5 5 false 11)
frequency_back (Some f) e = rw (amount_trip f.amount e).0 (ap (λ (x : Hertz). Some (record { amount = f.amount; unit = x })) (unit_back f.unit).1)

frequency_fits_lem : (d : Result (Option ℤ) Flaw) (u : Hertz) → HasPlaces 5 5 false d → passes above_zero d ≡ true → frequency_fits (in_unit d u) ≡ true
unfolding frequency_fits
frequency_fits_lem (Err wrong) u h e = absurd (false≢true e)
frequency_fits_lem (Ok None) u h e = refl
frequency_fits_lem (Ok (Some z)) u h e =
    let g = and_split (ltb (nat_abs z) (10 ^ (5 + 5))) (not (is_negative z)) h in
    rw g.0 e

frequency_read : (p q : List ℕ) → amount_good p ≡ true → frequency_fits (frequency_of p q) ≡ true
unfolding amount_good frequency_of
frequency_read p q e = frequency_fits_lem (decimal_of 5 5 false p) (unit_of (head q)) (decimal-places 5 5 false p) e

pub frequency_pair : Pair 11 1 amount_good unit_good frequency_of frequency_fits spell_amount spell_unit
frequency_pair = record { wide₁ = amount_wide; wide₂ = unit_wide; kept₁ = amount-kept; kept₂ = unit_kept; back = frequency_back; read = frequency_read }
