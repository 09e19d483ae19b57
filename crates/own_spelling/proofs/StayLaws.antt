-- Fields that have one spelling alone stay as they are: one byte, dates, the unit of a frequency. And a frequency's amount is a decimal.
use mathlib.Core.Path.{◌≡◌, refl, sym, ap, ◌∙◌}
use mathlib.Core.Bool.{Bool, true, false, cond, ◌&&◌, ◌||◌, false≢true}
use mathlib.Core.List.{List, [], ◌∷◌, ◌++◌, append-nil}
use Prim.Native.Nat.{ℕ}
use native.Mathlib.Omega.{arith}
use lib.Dec.{eqb}
use lib.ListN.{length, take, drop, replicate, length-drop, take-append-drop}
use lib.Seq.{length-take-le, take_all, drop-drop}
use borrow.Author.Tests.{eqb-true}
use Rattle.columns.specs.Sets.{is, among, is_digit}
use Rattle.columns.specs.Texts.{head, skip, blank, every, each, byte_good}
use Rattle.flaws.specs.Flaws.{unread}
use Rattle.numerals.specs.Numbers.{number, passes, in_sign, unsigned, spell_digits}
use Rattle.decimals.specs.Decimals.{magnitude_of, admits_decimal, decimal_of, spell_decimal}
use Rattle.formats.specs.Tenths.{in_tenths, tenths_of, spell_tenths}
use Rattle.days.specs.Dates.{date_rule, date_in, date_reads, unread_date, date_of, day_passes, in_day, day_good, day_of, spell_date, spell_day}
use Rattle.frequencies.specs.Frequencies.{amount_good, above_zero, unit_good, unit_of, unit_letter, in_unit, frequency_of, spell_amount, spell_unit}
use Rattle.frequencies.specs.declared.Hertz.{Hertz}
use Rattle.columns.proofs.TextLaws.{and_split, each-replicate, every_take, every_drop, blank-spaces}
use Rattle.columns.proofs.ColumnLaws.{either}
use Rattle.own_numbers.proofs.OwnLaws.{digits_own}
use Rattle.std.specs.Prelude.{Option, Some, None, Result, Ok, Err, ℤ}
use Rattle.flaws.specs.declared.Flaw.{Flaw}
use Rattle.numerals.specs.declared.Unread.{Unread}

-- One byte that keeps its rule is all there is.
pub byte_stays : (test : ℕ → Bool) (p : List ℕ) → byte_good test p ≡ true → head p ∷ [] ≡ p
unfolding byte_good each
byte_stays test [] e = absurd (false≢true e)
byte_stays test (c ∷ []) e = refl
byte_stays test (c ∷ d ∷ p) e = absurd (false≢true (and_split (test c) false e).1)

-- and passes
byte_is : (test : ℕ → Bool) (p : List ℕ) → byte_good test p ≡ true → test (head p) ≡ true
unfolding byte_good each
byte_is test [] e = absurd (false≢true e)
byte_is test (c ∷ p) e = (and_split (test c) (each [] p) e).0

-- Eight digits are the spelling of the date that they say,
eight_own : (p : List ℕ) → length p ≡ 8 → every is_digit p ≡ true → spell_date (date_in p) ≡ p
unfolding spell_date date_in
eight_own p n e =
    let months = drop 2 p in
    let years = drop 4 p in
    let two : length (take 2 p) ≡ 2 = length-take-le 2 p (omega arith) in
    let two' : length (take 2 months) ≡ 2 = length-take-le 2 months (omega (arith, length-drop 2 p)) in
    let four : length years ≡ 4 = length-drop 4 p ∙ omega arith in
    let all : take 4 years ≡ years = take_all 4 years (omega arith) in
    let year : spell_digits 4 (number years) [] ≡ years = ap (λ (k : ℕ). spell_digits k (number years) []) (sym four) ∙ digits_own years 0 [] (every_drop is_digit 4 p e) ∙ append-nil years in
    let month : spell_digits 2 (number (take 2 months)) years ≡ take 2 months ++ years = ap (λ (k : ℕ). spell_digits k (number (take 2 months)) years) (sym two') ∙ digits_own (take 2 months) 0 years (every_take is_digit 2 months (every_drop is_digit 2 p e)) in
    let day : spell_digits 2 (number (take 2 p)) months ≡ take 2 p ++ months = ap (λ (k : ℕ). spell_digits k (number (take 2 p)) months) (sym two) ∙ digits_own (take 2 p) 0 months (every_take is_digit 2 p e) in
    let rest : take 2 months ++ years ≡ months = ap (λ (l : List ℕ). take 2 months ++ l) (sym (drop-drop 2 2 p)) ∙ take-append-drop 2 months in
    rw (all, year, month, rest, day, take-append-drop 2 p)

-- so that a date or blank is its own spelling.
pub day_stays : (p : List ℕ) → length p ≡ 8 → day_good p ≡ true → spell_day (day_of p) ≡ p
unfolding day_good day_of date_of date_reads spell_day
day_stays p n e = by (blank p) refl (each (replicate 8 is_digit) p) refl (date_rule (date_in p)) e where
  by : (b : Bool) → blank p ≡ b → (r : Bool) → each (replicate 8 is_digit) p ≡ r → (d : Bool)
      → day_passes (cond b (Ok None) (cond (r && d) (Ok (Some (date_in p))) (Err (unread_date p)))) ≡ true
      → spell_day (in_day (cond b (Ok None) (cond (r && d) (Ok (Some (date_in p))) (Err (unread_date p))))) ≡ p
  by true q r f d e = ap (λ (k : ℕ). replicate k 32) (sym n) ∙ blank-spaces p q
  by false q true f true e = eight_own p n (and_split (eqb (length p) 8) (every is_digit p) (sym (each-replicate 8 is_digit p) ∙ f)).1
  by false q true f false e = absurd (false≢true e)
  by false q false f d e = absurd (false≢true e)

-- The letter of a unit is its own spelling,
letter_own : (c : ℕ) → among "kMG" c ≡ true → unit_letter (unit_of c) ≡ c
unfolding among unit_of unit_letter
letter_own c e =
    either (eqb c 107) (eqb c 77 || (eqb c 71 || false)) e (λ f. rw (eqb-true c 107 f))
    (λ f. either (eqb c 77) (eqb c 71 || false) f (λ g. rw (eqb-true c 77 g))
    (λ g. either (eqb c 71) false g (λ h. rw (eqb-true c 71 h)) (λ h. absurd (false≢true h))))

-- so that a unit that keeps its rule beside its amount is its own spelling.
pub unit_stays : (p q : List ℕ) → amount_good p ≡ true → unit_good p q ≡ true → spell_unit (frequency_of p q) ≡ q
unfolding amount_good unit_good frequency_of decimal_of spell_unit byte_good
unit_stays p q e f = by (blank p) (magnitude_of 5 5 (unsigned false (skip p))) e f where
  by : (b : Bool) (w : Result (Option ℕ) Unread)
      → passes above_zero (cond b (Ok None) (in_sign (unread (admits_decimal false) p) false w)) ≡ true
      → cond b (byte_good (is " ") q) (byte_good (among "kMG") q) ≡ true
      → spell_unit (in_unit (cond b (Ok None) (in_sign (unread (admits_decimal false) p) false w)) (unit_of (head q))) ≡ q
  by true w e f = ap (λ (c : ℕ). c ∷ []) (sym (eqb-true (head q) 32 (byte_is (is " ") q f))) ∙ byte_stays (is " ") q f
  by false (Err bad) e f = absurd (false≢true e)
  by false (Ok None) e f = absurd (false≢true e)
  by false (Ok (Some v)) e f = rw (letter_own (head q) (byte_is (among "kMG") q f)) (byte_stays (among "kMG") q f)

-- The amount of a frequency is a decimal, blank where it says none.
pub amount_anew : (p q : List ℕ) → spell_amount (frequency_of p q) ≡ spell_tenths 5 5 false (tenths_of 5 5 false p)
unfolding spell_amount frequency_of spell_tenths tenths_of spell_decimal
amount_anew p q = by (decimal_of 5 5 false p) (unit_of (head q)) where
  by : (d : Result (Option ℤ) Flaw) (u : Hertz) → spell_amount (in_unit d u) ≡ spell_tenths 5 5 false (in_tenths d)
  by (Err wrong) u = refl
  by (Ok None) u = refl
  by (Ok (Some z)) u = refl
