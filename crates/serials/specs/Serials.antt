-- Document 01: the header's file number, field 12, a whole number or blank.
use Rattle.std.specs.Prelude.{is_ok, ℕ, Bool, true, List, replicate, Option, Some, None, Result}
use Rattle.std.specs.Result.{result_unwrap_or}
use Rattle.numerals.specs.Numbers.{whole_of, whole_fits, spell_whole}
use Rattle.numerals.specs.declared.Unread.{Unread}

-- The rule on an answer,
abbrev pub serial_passes : Result (Option ℕ) Unread → Bool
serial_passes w = is_ok w

-- the answer as a typed value,
abbrev pub in_serial : Result (Option ℕ) Unread → Option ℕ
in_serial w = result_unwrap_or w None

-- the rule on the columns,
unfoldable pub serial_good : List ℕ → Bool
serial_good p = serial_passes (whole_of p)

-- the value that they say,
unfoldable pub serial_of : List ℕ → Option ℕ
serial_of p = in_serial (whole_of p)

-- the rule on a typed value,
unfoldable pub serial_fits : Option ℕ → Bool
serial_fits None = true
serial_fits (Some v) = whole_fits 6 v

-- and its spelling.
unfoldable pub spell_serial : Option ℕ → List ℕ
spell_serial None = replicate 6 32
spell_serial (Some v) = spell_whole 6 v
