-- Document 01, "How columns are read" and "Values and the one spelling": numbers.
use Rattle.std.specs.Prelude.{unwrap_or, is_some, ℕ, zero, suc, ◌+◌, ◌-◌, ◌*◌, ◌/◌, ◌%◌, ◌^◌, Bool, true, false, cond, not, ◌&&◌, ◌||◌, List, [], ◌∷◌, length, drop, ltb, ℤ, pos, negsuc, neg_ℤ, nat_abs, Option, Some, None, Result, Ok, Err}
use Rattle.std.specs.Result.{result_unwrap_or}
use Rattle.columns.specs.Sets.{is, among, is_digit}
use Rattle.columns.specs.Texts.{head, tail, ended, skip}
use Rattle.flaws.specs.Flaws.{unread}
use Rattle.flaws.specs.declared.Flaw.{Flaw}
use Rattle.numerals.specs.declared.Unread.{Unread}

-- The digits at the front of a text, k at most.
unfoldable pub leading : ℕ → List ℕ → List ℕ
leading zero t = []
leading (suc k) t = cond (is_digit (head t)) (head t ∷ leading k (tail t)) []

-- The text after those.
abbrev pub after : ℕ → List ℕ → List ℕ
after k t = drop (length (leading k t)) t

-- The number that digits say, read onto v.
unfoldable pub number_from : ℕ → List ℕ → ℕ
number_from v [] = v
number_from v (c ∷ t) = number_from (v * 10 + (c - 48)) t

abbrev pub number : List ℕ → ℕ
number t = number_from 0 t

-- No column of the paper has as many digits as eighteen; a number of more is refused.
abbrev pub most_digits : ℕ
most_digits = 18

-- The answer to columns that are not blank and say no whole number.
abbrev pub no_whole : Result (Option ℕ) Unread
no_whole = Err (record {})

-- At least one digit, and digits to the end.
unfoldable pub whole_digits : List ℕ → Result (Option ℕ) Unread
whole_digits t =
    let digits = leading most_digits t in
    cond (not (ended digits) && ended (after most_digits t)) (Ok (Some (number digits))) no_whole

-- Whole number: spaces, then digits to the last column, at least one digit.
unfoldable pub whole_of : List ℕ → Result (Option ℕ) Unread
whole_of p = let t = skip p in cond (ended t) (Ok None) (whole_digits t)

-- A whole number is there.
abbrev pub whole_filled : Result (Option ℕ) Unread → Bool
whole_filled w = is_some (result_unwrap_or w None)

-- The whole number that is there, 0 where there is none.
abbrev pub amount : Result (Option ℕ) Unread → ℕ
amount w = unwrap_or (result_unwrap_or w None) 0

-- v, or -v.
abbrev pub with_sign : Bool → ℕ → ℤ
with_sign minus v = cond minus (neg_ℤ (pos v)) (pos v)

-- A number whose sign is known, or what is wrong with its field where its digits say none.
abbrev pub in_sign : Flaw → Bool → Result (Option ℕ) Unread → Result (Option ℤ) Flaw
in_sign wrong minus (Err bad) = Err wrong
in_sign wrong minus (Ok None) = Err wrong
in_sign wrong minus (Ok (Some v)) = Ok (Some (with_sign minus v))

-- The bytes that a whole number admits, with a sign or without.
unfoldable pub admits_whole : Bool → ℕ → Bool
admits_whole sign c = is_digit c || is " " c || (sign && among "+-" c)

-- Signed: one + or - may stand directly before the first digit or point, nowhere else. Unsigned fields take no sign.
abbrev pub has_minus : Bool → List ℕ → Bool
has_minus sign t = sign && is "-" (head t)

unfoldable pub unsigned : Bool → List ℕ → List ℕ
unsigned sign t = cond (sign && among "+-" (head t)) (tail t) t

-- Spaces, a sign where the field may have one, and what its digits say. What is no number has the flaw of its bytes, by those that the field admits.
abbrev pub number_of : Bool → (ℕ → Bool) → (List ℕ → Result (Option ℕ) Unread) → List ℕ → Result (Option ℤ) Flaw
number_of sign admits digits p =
    let t = skip p in
    cond (ended t) (Ok None) (in_sign (unread admits p) (has_minus sign t) (digits (unsigned sign t)))

-- Whole number with a sign.
unfoldable pub signed_of : List ℕ → Result (Option ℤ) Flaw
signed_of p = number_of true (admits_whole true) whole_digits p

-- Blank, or a number that passes.
abbrev pub passes : (ℤ → Bool) → Result (Option ℤ) Flaw → Bool
passes test (Err wrong) = false
passes test (Ok None) = true
passes test (Ok (Some z)) = test z

-- The one spelling: all digit places filled with digits. The last k decimal digits of v stand in front of t.
unfoldable pub spell_digits : ℕ → ℕ → List ℕ → List ℕ
spell_digits zero v t = t
spell_digits (suc k) v t = spell_digits k (v / 10) ((48 + v % 10) ∷ t)

-- A whole number in k columns.
abbrev pub spell_whole : ℕ → ℕ → List ℕ
spell_whole k v = spell_digits k v []

-- The number is below zero.
abbrev pub is_negative : ℤ → Bool
is_negative (pos n) = false
is_negative (negsuc n) = true

-- A whole number has its digits' places in k columns.
abbrev pub whole_fits : ℕ → ℕ → Bool
whole_fits k v = ltb v (10 ^ k)

-- A whole number with a sign in w columns: below zero minus and w - 1 digits, else w digits.
unfoldable pub spell_signed : ℕ → ℤ → List ℕ
spell_signed w z = cond (is_negative z) (45 ∷ spell_whole (w - 1) (nat_abs z)) (spell_whole w (nat_abs z))

-- It has its places there.
unfoldable pub signed_fits : ℕ → ℤ → Bool
signed_fits w z = ltb 0 w && cond (is_negative z) (whole_fits (w - 1) (nat_abs z)) (whole_fits w (nat_abs z))
