-- Document 02, wish 2: the days of the Gregorian calendar.
use Rattle.std.specs.Prelude.{ℕ, ◌%◌, Bool, cond, not, ◌&&◌, ◌||◌, eqb}

-- The year is a multiple of n.
abbrev pub every_nth : ℕ → ℕ → Bool
every_nth n year = eqb (year % n) 0

-- A leap year: every fourth year, not every hundredth, but every four-hundredth.
abbrev pub is_leap : ℕ → Bool
is_leap year = every_nth 4 year && (not (every_nth 100 year) || every_nth 400 year)

-- A month of thirty days: April, June, September, November.
abbrev pub is_short : ℕ → Bool
is_short month = eqb month 4 || eqb month 6 || eqb month 9 || eqb month 11

-- The days of a month in a year.
abbrev pub days_in : ℕ → ℕ → ℕ
days_in month year = cond (eqb month 2) (cond (is_leap year) 29 28) (cond (is_short month) 30 31)
