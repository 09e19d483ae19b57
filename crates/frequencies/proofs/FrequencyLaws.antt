-- Frequencies and units that stand in their columns.
use mathlib.Core.Path.{◌≡◌, refl, sym}
use mathlib.Core.Bool.{Bool, true, false, and-true, and-false}
use mathlib.Core.List.{List, [], ◌∷◌}
use Prim.Native.Nat.{ℕ}
use native.Mathlib.Omega.{arith}
use lib.Dec.{ltb}
use lib.ListN.{length, set}
use Rattle.columns.specs.Sets.{is, among}
use Rattle.columns.specs.Texts.{head, blank, each}
use Rattle.numerals.specs.Numbers.{whole_fits}
use Rattle.columns.proofs.TextLaws.{cond_case}
use Rattle.frequencies.specs.declared.Frequency.{Frequency}
use Rattle.frequencies.specs.Frequencies.{unit_good, frequency_fits}
use Rattle.std.specs.Prelude.{Option, Some}

-- a field of one byte passes where its byte does,
one_byte_lem : (test : ℕ → Bool) (q : List ℕ) → length q ≡ 1 → each (test ∷ []) q ≡ test (head q)
unfolding each
one_byte_lem test [] h = absurd (omega arith)
one_byte_lem test (c ∷ []) h = and-true (test c)
one_byte_lem test (c ∷ d ∷ q) h = absurd (omega arith)

-- and another never
not_one_byte : (test : ℕ → Bool) (q : List ℕ) → (length q ≡ 1 → ⊥) → each (test ∷ []) q ≡ false
unfolding each
not_one_byte test [] n = refl
not_one_byte test (c ∷ []) n = absurd (n refl)
not_one_byte test (c ∷ d ∷ q) n = and-false (test c)

-- a unit has one column,
pub unit_short : (p q : List ℕ) → (length q ≡ 1 → ⊥) → false ≡ unit_good p q
unfolding unit_good
unit_short p q n = cond_case (λ (b : Bool). false ≡ b) (blank p) (λ e. sym (not_one_byte (is " ") q n)) (λ e. sym (not_one_byte (among "kMG") q n))

-- a space beside a blank amount,
pub unit_blank : (p q : List ℕ) → length q ≡ 1 → blank p ≡ true → is " " (head q) ≡ unit_good p q
unfolding unit_good
unit_blank p q l e = rw e (sym (one_byte_lem (is " ") q l))

-- and a letter beside a filled one
pub unit_filled : (p q : List ℕ) → length q ≡ 1 → blank p ≡ false → among "kMG" (head q) ≡ unit_good p q
unfolding unit_good
unit_filled p q l e = rw e (sym (one_byte_lem (among "kMG") q l))

-- a byte set in one column is all that stands there
pub one_column : (s : List ℕ) (c : ℕ) → length s ≡ 1 → set s 0 c ≡ c ∷ []
one_column [] c h = absurd (omega arith)
one_column (b ∷ []) c h = refl
one_column (b ∷ d ∷ s) c h = absurd (omega arith)

module _ (f : Frequency) {v : Option Frequency} (e : v ≡ Some f) where
  -- an amount of too many digits does not fit,
  pub amount-not : whole_fits 10 f.amount ≡ false → false ≡ frequency_fits v
  unfolding frequency_fits
  amount-not h = rw (e, h)

  -- and one of few enough fits where it is above zero
  pub amount_above : whole_fits 10 f.amount ≡ true → ltb 0 f.amount ≡ frequency_fits v
  unfolding frequency_fits
  amount_above h = rw (e, h)
