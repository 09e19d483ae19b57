-- Figures computed from the definitions: steps of the field, and a row in its bytes.
use mathlib.Core.Path.{◌≡◌, refl}
use mathlib.Core.List.{[], ◌∷◌}
use lib.ListN.{replicate}
use Rattle.numerals.specs.Numbers.{spell_digits}
use Rattle.frequencies.specs.declared.Hertz.TheVariants as hertz
use Rattle.hundredths.specs.Hundredths.{step_of, hundredths_of}
use Rattle.operator_pages.specs.Pages.{operator_row}
use Rattle.desk_operators.specs.Rows.{spell_hundredths, spell_head, spell_row}
use Rattle.std.specs.Prelude.{Some, None}

-- 9,999,999,999 GHz steps, 938.2 MHz and one kHz step.
pub most_gigahertz : hundredths_of (Some (record { amount = 9999999999; unit = hertz.Giga })) ≡ Some 9999999999000000
unfolding hundredths_of step_of
most_gigahertz = refl

pub paper_megahertz : hundredths_of (Some (record { amount = 93820000; unit = hertz.Mega })) ≡ Some 93820000000
unfolding hundredths_of step_of
paper_megahertz = refl

pub one_kilohertz_step : hundredths_of (Some (record { amount = 1; unit = hertz.Kilo })) ≡ Some 1
unfolding hundredths_of step_of
one_kilohertz_step = refl

-- The row of an operator whose two stations transmit on 938.2 MHz, and of one whose station does not.
pub sending_row : spell_row (operator_row 11 (record { stations = 2; transmitting = 2; lowest = Some 93820000000; highest = Some 93820000000 })) ≡ 49 ∷ 49 ∷ 0 ∷ 2 ∷ 0 ∷ 2 ∷ 0 ∷ 0 ∷ 0 ∷ 21 ∷ 216 ∷ 27 ∷ 151 ∷ 0 ∷ 0 ∷ 0 ∷ 0 ∷ 21 ∷ 216 ∷ 27 ∷ 151 ∷ 0 ∷ []
unfolding spell_row spell_head spell_hundredths spell_digits
sending_row = refl

pub silent_row : spell_row (operator_row 7 (record { stations = 298; transmitting = 0; lowest = None; highest = None })) ≡ 48 ∷ 55 ∷ 1 ∷ 42 ∷ 0 ∷ 0 ∷ replicate 16 32
unfolding spell_row spell_head spell_hundredths spell_digits
silent_row = refl
