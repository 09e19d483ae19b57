-- Dates are two kinds of column: a date, and a date or blank.
use mathlib.Core.Path.{◌≡◌, refl, sym, ap, ◌∙◌}
use mathlib.Core.Bool.{true, false, ◌&&◌, false≢true}
use mathlib.Core.List.{List, [], ◌∷◌, ◌++◌}
use Prim.Native.Nat.{ℕ, ◌^◌, ◌≤◌, ◌<◌}
use native.Mathlib.Omega.{arith}
use native.Mathlib.Nat.{zero-mul, zero-add}
use lib.Dec.{leb, eqb}
use lib.ListN.{length, take, drop, replicate}
use lib.Seq.{take_at, drop_at, take_all, drop-drop}
use borrow.Author.Tests.{eq-eqb, ne_eqb, eqb-true, leb-true}
use Rattle.columns.specs.Sets.{is_digit}
use Rattle.columns.specs.Texts.{skip, blank, every, each}
use Rattle.numerals.specs.Numbers.{number, spell_digits, spell_whole}
use Rattle.calendar.specs.Calendar.{is_leap, is_short, days_in}
use Rattle.days.specs.Dates.{within, date_by, date_rule, date_in, date_reads, date_of, day_passes, date_filled, in_day, spell_date, day_good, day_of, day_fits, spell_day, date_good, date_fits}
use Rattle.days.specs.declared.dates.Date.{Date}
use Rattle.columns.proofs.TextLaws.{and_split, and_both, cond_case, each-replicate}
use Rattle.numerals.proofs.NumberLaws.{digit_range}
use Rattle.numerals.proofs.RoundTrip.{spelled_front, spelled_digits, spelled_length, spelled_says}
use Rattle.columns.proofs.ColumnLaws.{Column}
use Rattle.std.specs.Prelude.{Option, Some, None, Result, Ok, Err}
use Rattle.flaws.specs.declared.Flaw.{Flaw}

-- the three numbers of a date, one after the other
date_parts : (d : Date) → spell_date d ≡ spell_whole 2 d.day ++ (spell_whole 2 d.month ++ spell_whole 4 d.year)
unfolding spell_date
date_parts d =
    spelled_front 2 d.day (spell_digits 2 d.month (spell_digits 4 d.year []))
    ∙ ap (λ (l : List ℕ). spell_whole 2 d.day ++ l) (spelled_front 2 d.month (spell_digits 4 d.year []))

whole_length : (k v : ℕ) → length (spell_whole k v) ≡ k
whole_length k v = spelled_length k v [] ∙ omega arith

at_most : (low high n : ℕ) → within low high n ≡ true → n ≤ high
at_most low high n e = leb-true n high (and_split (leb low n) (leb n high) e).1

-- a date has two, two and four digits
record Digits (d : Date) : Type 0 where
  day_two : d.day < 10 ^ 2
  month_two : d.month < 10 ^ 2
  year_four : d.year < 10 ^ 4

-- by any rule of days that gives no month as many as a hundred
digits_by : (days : ℕ → ℕ → ℕ) → ((m y : ℕ) → days m y < 10 ^ 2) → (d : Date) → date_by days d ≡ true → Digits d
digits_by days few d e =
    let last = days d.month d.year in
    let h = and_split (within 1 12 d.month && within 1901 9999 d.year) (within 1 last d.day) e in
    let g = and_split (within 1 12 d.month) (within 1901 9999 d.year) h.0 in
    record {
      day_two = omega (arith, at_most 1 last d.day h.1, few d.month d.year);
      month_two = omega (arith, at_most 1 12 d.month g.0);
      year_four = omega (arith, at_most 1901 9999 d.year g.1);
    }

-- no month has more than 31
days_two_digits : (m y : ℕ) → days_in m y ≤ 31
days_two_digits m y =
    cond_case (λ (n : ℕ). n ≤ 31) (eqb m 2)
    (λ e. cond_case (λ (n : ℕ). n ≤ 31) (is_leap y) (λ f. omega arith) (λ f. omega arith))
    (λ e. cond_case (λ (n : ℕ). n ≤ 31) (is_short m) (λ f. omega arith) (λ f. omega arith))

-- and so by the calendar
date_digits : (d : Date) → date_rule d ≡ true → Digits d
unfolding date_rule
date_digits d e = digits_by days_in (λ m y. omega (arith, days_two_digits m y)) d e

says : (k v : ℕ) → v < 10 ^ k → number (spell_whole k v) ≡ v
says k v h = spelled_says k 0 v h ∙ simp (zero-mul, zero-add)

-- what is spelled is the date again
date_in_trip : (d : Date) → Digits d → date_in (spell_date d) ≡ d
unfolding date_in
date_in_trip d g =
    let day = spell_whole 2 d.day in
    let month = spell_whole 2 d.month in
    let year = spell_whole 4 d.year in
    let rest : drop 2 (day ++ (month ++ year)) ≡ month ++ year = drop_at day (month ++ year) 2 (whole_length 2 d.day) in
    let last : drop 4 (day ++ (month ++ year)) ≡ year = sym (drop-drop 2 2 (day ++ (month ++ year))) ∙ ap (drop 2) rest ∙ drop_at month year 2 (whole_length 2 d.month) in
    let y : take 4 year ≡ year = take_all 4 year (omega (arith, whole_length 4 d.year)) in
    rw (
      date_parts d,
      rest,
      last,
      take_at day (month ++ year) 2 (whole_length 2 d.day),
      take_at month year 2 (whole_length 2 d.month),
      y,
      says 2 d.day g.day_two,
      says 2 d.month g.month_two,
      says 4 d.year g.year_four,
    )

-- it is eight digits
date_spelled : (d : Date) → each (replicate 8 is_digit) (spell_date d) ≡ true
unfolding spell_date
date_spelled d =
    let n : length (spell_date d) ≡ 8 = simp spelled_length in
    each-replicate 8 is_digit (spell_date d)
    ∙ and_both (eqb (length (spell_date d)) 8) (every is_digit (spell_date d)) (eq-eqb (length (spell_date d)) 8 n)
    (spelled_digits 2 d.day (spell_digits 2 d.month (spell_digits 4 d.year [])) (spelled_digits 2 d.month (spell_digits 4 d.year []) (spelled_digits 4 d.year [] (unfold every in refl))))

-- and not blank
digits_filled : (p : List ℕ) → every is_digit p ≡ true → 1 ≤ length p → blank p ≡ false
unfolding every skip
digits_filled [] e h = absurd (omega arith)
digits_filled (c ∷ p) e h = let r = digit_range c (and_split (is_digit c) (every is_digit p) e).0 in rw (ne_eqb c 32 (λ q. omega arith))

-- so it is read as that date
date_trip : (d : Date) → date_rule d ≡ true → date_of (spell_date d) ≡ Ok (Some d)
unfolding date_of date_reads
date_trip d e =
    let g = and_split (eqb (length (spell_date d)) 8) (every is_digit (spell_date d)) (sym (each-replicate 8 is_digit (spell_date d)) ∙ date_spelled d) in
    let n : length (spell_date d) ≡ 8 = eqb-true (length (spell_date d)) 8 g.0 in
    rw (digits_filled (spell_date d) g.1 (omega arith), date_spelled d, date_in_trip d (date_digits d e), e)

-- a date that was read keeps its rule
abbrev KeepsRule : Result (Option Date) Flaw → Type 0
KeepsRule (Err wrong) = Unit {0}
KeepsRule (Ok None) = Unit {0}
KeepsRule (Ok (Some d)) = date_rule d ≡ true

date_keeps : (p : List ℕ) → KeepsRule (date_of p)
unfolding date_of date_reads
date_keeps p =
    cond_case KeepsRule (blank p) (λ e. tt)
    (λ e. cond_case KeepsRule (each (replicate 8 is_digit) p && date_rule (date_in p)) (λ f. (and_split (each (replicate 8 is_digit) p) (date_rule (date_in p)) f).1) (λ f. tt))

spaces_no_date : date_of (replicate 8 32) ≡ Ok None
unfolding date_of skip
spaces_no_date = refl

day_wide : (v : Option Date) → length (spell_day v) ≡ 8
unfolding spell_day spell_date
day_wide None = refl
day_wide (Some d) = simp spelled_length

-- a date or blank
day_kept : (v : Option Date) → day_fits v ≡ true → day_good (spell_day v) ≡ true
unfolding day_good day_fits spell_day
day_kept None e = rw spaces_no_date
day_kept (Some d) e = rw (date_trip d e)

day_back : (v : Option Date) → day_fits v ≡ true → day_of (spell_day v) ≡ v
unfolding day_of day_fits spell_day
day_back None e = rw spaces_no_date
day_back (Some d) e = rw (date_trip d e)

day_read : (p : List ℕ) → day_good p ≡ true → day_fits (day_of p) ≡ true
unfolding day_good day_of day_fits
day_read p e = by (date_of p) (date_keeps p) e where
  by : (d : Result (Option Date) Flaw) → KeepsRule d → day_passes d ≡ true → day_fits (in_day d) ≡ true
  by (Err wrong) k e = absurd (false≢true e)
  by (Ok None) k e = refl
  by (Ok (Some d)) k e = k

pub day_column : Column 8 day_good day_of day_fits spell_day
day_column = record { wide = λ v e. day_wide v; kept = day_kept; back = day_back; read = λ p l e. day_read p e }

-- a date that may not be blank fits as one that may, and its columns say a date
filled_fits : (v : Option Date) → date_fits v ≡ true → day_fits v ≡ true
unfolding date_fits day_fits
filled_fits None e = absurd (false≢true e)
filled_fits (Some d) e = e

date_kept : (v : Option Date) → date_fits v ≡ true → date_good (spell_day v) ≡ true
unfolding date_good date_fits spell_day
date_kept None e = absurd (false≢true e)
date_kept (Some d) e = rw (date_trip d e)

date_read : (p : List ℕ) → date_good p ≡ true → date_fits (day_of p) ≡ true
unfolding date_good day_of date_fits
date_read p e = by (date_of p) (date_keeps p) e where
  by : (d : Result (Option Date) Flaw) → KeepsRule d → date_filled d ≡ true → date_fits (in_day d) ≡ true
  by (Err wrong) k e = absurd (false≢true e)
  by (Ok None) k e = absurd (false≢true e)
  by (Ok (Some d)) k e = k

pub date_column : Column 8 date_good day_of date_fits spell_day
date_column = record { wide = λ v e. day_wide v; kept = date_kept; back = λ v e. day_back v (filled_fits v e); read = λ p l e. date_read p e }
