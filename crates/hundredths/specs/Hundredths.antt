-- Document 02, wish 9: transmit frequencies in hundredths of a hertz, and the lowest and the highest of some.
use Rattle.std.specs.Prelude.{ℕ, zero, suc, ◌*◌, Bool, true, false, cond, ltb, Option, Some, None}
use Rattle.frequencies.specs.declared.Hertz.{Hertz}
use Rattle.frequencies.specs.declared.Hertz.TheVariants as hertz
use Rattle.frequencies.specs.declared.Frequency.{Frequency}

-- One kHz step of the field is 1, a MHz step 1,000, a GHz step 1,000,000.
unfoldable pub step_of : Hertz → ℕ
step_of hertz.Kilo = 1
step_of hertz.Mega = 1000
step_of hertz.Giga = 1000000

-- A frequency in hundredths of a hertz, blank where there is none.
unfoldable pub hundredths_of : Option Frequency → Option ℕ
hundredths_of None = None
hundredths_of (Some f) = Some (f.amount * step_of f.unit)

-- There is a frequency.
abbrev pub filled : Option ℕ → Bool
filled None = false
filled (Some v) = true

-- The lower of v and a frequency that there may be,
unfoldable pub lower_of : ℕ → Option ℕ → Option ℕ
lower_of v None = Some v
lower_of v (Some u) = Some (cond (ltb v u) v u)

-- and the higher.
unfoldable pub higher_of : ℕ → Option ℕ → Option ℕ
higher_of v None = Some v
higher_of v (Some u) = Some (cond (ltb u v) v u)

-- One frequency more, where there is one.
abbrev pub with_one : (ℕ → Option ℕ → Option ℕ) → Option ℕ → Option ℕ → Option ℕ
with_one choose None a = a
with_one choose (Some v) a = choose v a

-- Of the frequencies at 1 to n the lowest or the highest, as it is chosen; blank where there is none.
unfoldable pub extreme : (ℕ → Option ℕ → Option ℕ) → (ℕ → Option ℕ) → ℕ → Option ℕ
extreme choose f zero = None
extreme choose f (suc n) = with_one choose (f (suc n)) (extreme choose f n)
