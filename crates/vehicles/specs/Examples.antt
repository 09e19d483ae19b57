-- The paper's own number, and what is refused beside it.
use Rattle.std.specs.Prelude.{◌≡◌, [], take, Ok, Err}
use Rattle.columns.specs.Texts.{bytes}
use Rattle.basics.specs.Outcomes.{first_refusal}
use Rattle.basics.specs.declared.Refusal.TheVariants as why
use Rattle.vehicles.specs.Digits.{digit_sum, digits_of, number_tests}
use Rattle.vehicles.specs.Names.{name_of, number_in}

-- What the definitions make of these.
pub record Examples : Type 0 where
  -- 318166502860 passes, the sum before its last digit being 40.
  pub sum_before : digit_sum (take 11 (digits_of (bytes "318166502860"))) ≡ 40
  pub passes : first_refusal (number_tests (bytes "318166502860")) ≡ Ok tt
  -- One digit changed, and two neighbours swapped.
  pub digit_changed : first_refusal (number_tests (bytes "318166502850")) ≡ Err why.LastDigitWrong
  pub neighbours_swapped : first_refusal (number_tests (bytes "138166502860")) ≡ Err why.LastDigitWrong
  -- Eleven digits, and a letter.
  pub eleven : first_refusal (number_tests (bytes "31816650286")) ≡ Err why.NotTwelveDigits
  pub letter : first_refusal (number_tests (bytes "3181665O2860")) ≡ Err why.NotTwelveDigits
  -- Its name, and the number in names.
  pub name : name_of (bytes "318166502860") ≡ bytes "9999_318166502860_R "
  pub found : number_in (bytes "9999_318166502860_R ") ≡ bytes "318166502860"
  pub wrong_last : number_in (bytes "9999_318166502861_R ") ≡ []
  pub other_name : number_in (bytes "1010_MUSTER         ") ≡ []
