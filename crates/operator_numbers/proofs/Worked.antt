-- Frequencies as people read them, computed from the definitions.
use mathlib.Core.Path.{◌≡◌, refl}
use Rattle.columns.specs.Texts.{bytes}
use Rattle.numerals.specs.Numbers.{spell_digits}
use Rattle.operator_numbers.specs.Frequencies.{digits_in, in_digits, shortened, megahertz}

-- 9,999,999,999 GHz steps, 938.2 MHz, one kHz step, and a whole number of megahertz.
pub most_read : megahertz 9999999999000000 ≡ bytes "99999999.99"
unfolding megahertz in_digits digits_in shortened spell_digits
most_read = refl

pub paper_read : megahertz 93820000000 ≡ bytes "938.2"
unfolding megahertz in_digits digits_in shortened spell_digits
paper_read = refl

pub least_read : megahertz 1 ≡ bytes "0.00000001"
unfolding megahertz in_digits digits_in shortened spell_digits
least_read = refl

pub whole_read : megahertz 40000000000 ≡ bytes "400.0"
unfolding megahertz in_digits digits_in shortened spell_digits
whole_read = refl
