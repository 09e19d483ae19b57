-- What the bytes of a row tell: each number is read back, and no frequency is taken for none.
use mathlib.Core.Path.{◌≡◌, refl, sym, ap, ◌∙◌}
use mathlib.Core.List.{List, []}
use Prim.Native.Nat.{ℕ, ◌^◌, ◌<◌}
use native.Mathlib.Omega.{arith}
use lib.ListN.{length, length-append}
use Rattle.numerals.proofs.RoundTrip.{spelled_length}
use Rattle.forms.specs.Forms.{value_from}
use Rattle.forms.proofs.FormLaws.{length-number, number_back}
use Rattle.hundredths.proofs.ExtremeLaws.{Among, lowest_is, highest_is}
use Rattle.operator_counts.specs.declared.Tally.{Tally}
use Rattle.operator_counts.specs.Counts.{heard_at, sent_by, tally_of}
use Rattle.operator_counts.proofs.HeardLaws.{sent_below}
use Rattle.operator_pages.specs.Pages.{operator_row}
use Rattle.desk_operators.specs.Rows.{operator_width, spell_hundredths, spell_head, spell_row}
use Rattle.std.specs.Prelude.{Option, Some, None}

-- A frequency has eight bytes, or as many spaces,
hundredths_wide : (a : Option ℕ) → length (spell_hundredths a) ≡ 8
unfolding spell_hundredths
hundredths_wide None = refl
hundredths_wide (Some v) = length-number 8 v

-- so that every row of a page has its width.
pub row_wide : (c : ℕ) (t : Tally) → length (spell_row (operator_row c t)) ≡ operator_width
unfolding spell_row spell_head
row_wide c t = rw (length-append, length-append, length-append, length-append, spelled_length 2 c [], hundredths_wide t.lowest, hundredths_wide t.highest)

-- Its eight bytes give a frequency back.
pub frequency_back : (v : ℕ) → value_from 0 (spell_hundredths (Some v)) ≡ v
unfolding spell_hundredths
frequency_back v = number_back 8 v (omega arith)

-- Spaces stand for no frequency of sixteen digits at most,
blank_told : (a : Option ℕ) → ((m : ℕ) → a ≡ Some m → m < 10 ^ 16) → spell_hundredths a ≡ spell_hundredths None → a ≡ None
unfolding spell_hundredths
blank_told None small e = refl
blank_told (Some v) small e =
    let spaces : v ≡ 2314885530818453536 = sym (frequency_back v) ∙ ap (λ (p : List ℕ). value_from 0 p) e in
    absurd (omega (arith, small v refl, spaces))

-- and none that a row can have is longer: where its lowest or its highest are spaces, there is none.
module _ (file : List ℕ) (n c : ℕ) where
  among : (m : ℕ) → Among (λ k. sent_by c (heard_at file k)) n m → m < 10 ^ 16
  among m one = sent_below file one.place c m one.stands

  pub lowest_told : spell_hundredths (tally_of (heard_at file) n c).lowest ≡ spell_hundredths None → (tally_of (heard_at file) n c).lowest ≡ None
  unfolding tally_of
  lowest_told = blank_told _ (λ m e. among m ((lowest_is (λ k. sent_by c (heard_at file k)) n).one m e))

  pub highest_told : spell_hundredths (tally_of (heard_at file) n c).highest ≡ spell_hundredths None → (tally_of (heard_at file) n c).highest ≡ None
  unfolding tally_of
  highest_told = blank_told _ (λ m e. among m ((highest_is (λ k. sent_by c (heard_at file k)) n).one m e))
