-- Document 01: 1A and 1Y with their units, each blank or filled. The amount is the first field, p, and the unit the second, q.
use Rattle.std.specs.Prelude.{option_map, is_some, ℕ, Bool, true, false, cond, ◌&&◌, List, [], ◌∷◌, replicate, ltb, ℤ, pos, nat_abs, Option, Some, None, Result}
use Rattle.std.specs.Result.{result_unwrap_or}
use Prim.Native.Char.{code}
use Rattle.columns.specs.Sets.{is, among}
use Rattle.columns.specs.Texts.{head, blank, each}
use Rattle.numerals.specs.Numbers.{passes}
use Rattle.decimals.specs.Decimals.{decimal_of, decimal_fits, spell_decimal}
use Rattle.frequencies.specs.declared.Hertz.{Hertz}
use Rattle.frequencies.specs.declared.Hertz.TheVariants as hertz
use Rattle.frequencies.specs.declared.Frequency.{Frequency}
use Rattle.flaws.specs.declared.Flaw.{Flaw}

abbrev pub above_zero : ℤ → Bool
above_zero z = ltb 0 (nat_abs z)

-- 1A, 1Y: decimal 5/5, above zero, or blank.
unfoldable pub amount_good : List ℕ → Bool
amount_good p = passes above_zero (decimal_of 5 5 false p)

-- The unit: k, M or G if the amount is filled, else blank.
unfoldable pub unit_good : List ℕ → List ℕ → Bool
unit_good p q = cond (blank p) (each (is " " ∷ []) q) (each (among "kMG" ∷ []) q)

-- The unit of a letter,
unfoldable pub unit_of : ℕ → Hertz
unit_of c = cond (is "k" c) hertz.Kilo (cond (is "M" c) hertz.Mega hertz.Giga)

-- and the letter of a unit.
unfoldable pub unit_letter : Hertz → ℕ
unit_letter hertz.Kilo = code "k"
unit_letter hertz.Mega = code "M"
unit_letter hertz.Giga = code "G"

-- An answer and its unit as a typed value.
abbrev pub in_unit : Result (Option ℤ) Flaw → Hertz → Option Frequency
in_unit v u = option_map (λ z. record { amount = nat_abs z; unit = u }) (result_unwrap_or v None)

-- The value that both fields say: it counts 1/100000 of its unit.
unfoldable pub frequency_of : List ℕ → List ℕ → Option Frequency
frequency_of p q = in_unit (decimal_of 5 5 false p) (unit_of (head q))

-- The rule on a typed value. A typed unit always has its letter.
unfoldable pub frequency_fits : Option Frequency → Bool
frequency_fits None = true
frequency_fits (Some f) = decimal_fits 5 5 false (pos f.amount) && above_zero (pos f.amount)

-- The spelling of the amount,
unfoldable pub spell_amount : Option Frequency → List ℕ
spell_amount None = replicate 11 32
spell_amount (Some f) = spell_decimal 5 5 false (pos f.amount)

-- and of the unit.
unfoldable pub spell_unit : Option Frequency → List ℕ
spell_unit None = code " " ∷ []
spell_unit (Some f) = unit_letter f.unit ∷ []

-- The frequency is filled.
abbrev pub has_frequency : Option Frequency → Bool
has_frequency v = is_some v
