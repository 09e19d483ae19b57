-- `own_numbers::is_own_decimal` meets its contract, format by format.
use Rattle.own_numbers.specs.OwnNumbers.{digits_around, signed_around}
use Rattle.own_numbers.proofs.OwnLaws.{plain-own, signed-own}
use Rattle.formats.specs.declared.Format.{Format}
use Rattle.formats.specs.declared.Format.TheVariants as format
use Rattle.formats.specs.Tenths.{tenths_of, spell_tenths}
use Rattle.formats.specs.Formats.{digits_before, digits_after, may_sign, format_width}
use Rattle.decimals.specs.Decimals.{spell_magnitude}
use Rattle.numerals.specs.Numbers.{spell_digits}
use lib.ListN.{length}
use Prim.Native.Nat.{ℕ}
use mathlib.Core.Bool.{Bool, true, cond}
use mathlib.Core.List.{List}
use mathlib.Core.Path.{◌≡◌, refl, sym, ap, ◌∙◌}
use native.Mathlib.Omega.{arith}
use Rattle.own_numbers.proofs.is_own_decimal.Goals as goal

-- a field that is its own spelling in a format
abbrev Own : Format → List ℕ → Type 0
Own f p = spell_tenths (digits_before f) (digits_after f) (may_sign f) (tenths_of (digits_before f) (digits_after f) (may_sign f) p) ≡ p

-- what is asked of it: digits around the point, behind a sign where one may stand
abbrev asked : Format → List ℕ → Bool
asked f p = cond (may_sign f) (signed_around (digits_before f) (spell_magnitude (digits_before f) (digits_after f) 0) p) (digits_around 46 (digits_before f) p)

-- what passes is its own spelling in each format
passes-own : (f : Format) (p : List ℕ) → length p ≡ format_width f → asked f p ≡ true → Own f p
passes-own format.Frequency p n e = plain-own 5 5 p (omega arith) n e
passes-own format.Power p n e = signed-own 3 1 _ p (omega arith) n refl e
passes-own format.Azimuth p n e = plain-own 3 1 p (omega arith) n e
passes-own format.Elevation p n e = signed-own 2 1 _ p (omega arith) n refl e
passes-own format.Gain p n e = plain-own 2 1 p (omega arith) n e

-- and so where the format is told
own_in : {f g : Format} {p : List ℕ} → f ≡ g → length p ≡ format_width f → asked g p ≡ true → Own f p
own_in {f = f} {p = p} told n e = passes-own f p n (ap (λ (x : Format). asked x p) told ∙ e)

pub is_around-requires : goal.is_around-requires
is_around-requires c =
    let l : length c.args.s.now ≡ 11 = c.requires ∙ ap format_width c.in-Frequency.is in
    omega arith

pub is_signed_around-requires : goal.is_signed_around-requires
is_signed_around-requires c =
    let l : length c.args.s.now ≡ 6 = c.requires ∙ ap format_width c.in-Power.is in
    omega arith

pub is_around-requires-in-Azimuth : goal.is_around-requires-in-Azimuth
is_around-requires-in-Azimuth c =
    let l : length c.args.s.now ≡ 5 = c.requires ∙ ap format_width c.in-Azimuth.is in
    omega arith

pub is_signed_around-requires-in-Elevation : goal.is_signed_around-requires-in-Elevation
is_signed_around-requires-in-Elevation c =
    let l : length c.args.s.now ≡ 5 = c.requires ∙ ap format_width c.in-Elevation.is in
    omega arith

pub is_around-requires-in-Gain : goal.is_around-requires-in-Gain
is_around-requires-in-Gain c =
    let l : length c.args.s.now ≡ 4 = c.requires ∙ ap format_width c.in-Gain.is in
    omega arith

pub returns-in-Frequency : goal.returns-in-Frequency
returns-in-Frequency c = λ e. own_in c.in-Frequency.is c.requires (sym c.is_around.ensures ∙ e)

pub returns-in-Power : goal.returns-in-Power
unfolding spell_magnitude spell_digits
returns-in-Power c = λ e. own_in c.in-Power.is c.requires (sym c.is_signed_around.ensures ∙ e)

pub returns-in-Azimuth : goal.returns-in-Azimuth
returns-in-Azimuth c = λ e. own_in c.in-Azimuth.is c.requires (sym c.is_around-in-Azimuth.ensures ∙ e)

pub returns-in-Elevation : goal.returns-in-Elevation
unfolding spell_magnitude spell_digits
returns-in-Elevation c = λ e. own_in c.in-Elevation.is c.requires (sym c.is_signed_around-in-Elevation.ensures ∙ e)

pub returns-in-Gain : goal.returns-in-Gain
returns-in-Gain c = λ e. own_in c.in-Gain.is c.requires (sym c.is_around-in-Gain.ensures ∙ e)
