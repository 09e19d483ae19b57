-- Document 01, "How columns are read": dates; of real days, as document 02, wish 2, has it.
use Rattle.std.specs.Prelude.{is_some, is_ok, ℕ, Bool, true, false, cond, ◌&&◌, List, [], take, drop, replicate, leb, Option, Some, None, Result, Ok, Err}
use Rattle.std.specs.Result.{result_unwrap_or}
use Rattle.columns.specs.Sets.{is_digit}
use Rattle.columns.specs.Texts.{blank, each}
use Rattle.flaws.specs.Flaws.{unread}
use Rattle.flaws.specs.declared.Flaw.{Flaw}
use Rattle.flaws.specs.declared.Flaw.TheVariants as flaw
use Rattle.numerals.specs.Numbers.{number, admits_whole, spell_digits}
use Rattle.calendar.specs.Calendar.{days_in}
use Rattle.days.specs.declared.dates.Date.{Date}

-- A number from low to high.
abbrev pub within : ℕ → ℕ → ℕ → Bool
within low high n = leb low n && leb n high

-- A date by a rule of how many days a month has in a year: month 01 to 12, year 1901 to 9999, day 01 to the month's last.
abbrev pub date_by : (ℕ → ℕ → ℕ) → Date → Bool
date_by days d = within 1 12 d.month && within 1901 9999 d.year && within 1 (days d.month d.year) d.day

-- The date rule: a day of the calendar.
unfoldable pub date_rule : Date → Bool
date_rule d = date_by days_in d

-- Eight digits: two of the day, two of the month, four of the year.
unfoldable pub date_in : List ℕ → Date
date_in p = record { day = number (take 2 p); month = number (take 2 (drop 2 p)); year = number (take 4 (drop 4 p)) }

-- Eight digits can be read, whether they are a day or not.
unfoldable pub date_reads : List ℕ → Bool
date_reads p = each (replicate 8 is_digit) p

-- What is wrong with what is no date: eight digits are outside the calendar, anything else has the flaw of its bytes.
unfoldable pub unread_date : List ℕ → Flaw
unread_date p = cond (date_reads p) flaw.Range (unread (admits_whole false) p)

-- What a date's columns say.
unfoldable pub date_of : List ℕ → Result (Option Date) Flaw
date_of p =
    cond (blank p) (Ok None)
    (cond (date_reads p && date_rule (date_in p)) (Ok (Some (date_in p))) (Err (unread_date p)))

-- A date or blank passes.
abbrev pub day_passes : Result (Option Date) Flaw → Bool
day_passes d = is_ok d

-- A date passes.
abbrev pub date_filled : Result (Option Date) Flaw → Bool
date_filled d = is_some (result_unwrap_or d None)

-- The answer as a typed value; what cannot be read is never taken for one.
abbrev pub in_day : Result (Option Date) Flaw → Option Date
in_day d = result_unwrap_or d None

-- The spelling of a date.
unfoldable pub spell_date : Date → List ℕ
spell_date d = spell_digits 2 d.day (spell_digits 2 d.month (spell_digits 4 d.year []))

-- 2C, 2W, 2Z: a date or blank. The rule on the columns,
unfoldable pub day_good : List ℕ → Bool
day_good p = day_passes (date_of p)

-- the value that they say,
unfoldable pub day_of : List ℕ → Option Date
day_of p = in_day (date_of p)

-- the rule on a typed value,
unfoldable pub day_fits : Option Date → Bool
day_fits None = true
day_fits (Some d) = date_rule d

-- and its spelling.
unfoldable pub spell_day : Option Date → List ℕ
spell_day None = replicate 8 32
spell_day (Some d) = spell_date d

-- The header's date, which may not be blank: the rule on the columns,
unfoldable pub date_good : List ℕ → Bool
date_good p = date_filled (date_of p)

-- and the rule on a typed value.
unfoldable pub date_fits : Option Date → Bool
date_fits None = false
date_fits (Some d) = date_rule d
