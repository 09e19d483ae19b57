-- How building a carriage's station ends, by the tests that it passes.
use Rattle.std.specs.Prelude.{Ok, Err}
use mathlib.Core.Path.{◌≡◌, refl, sym, ap, ◌∙◌}
use mathlib.Core.Bool.{Bool, true, false, not}
use mathlib.Core.List.{List, [], ◌∷◌, ◌++◌}
use Prim.Native.Nat.{ℕ}
use lib.Dec.{eqb}
use lib.ListN.{length}
use borrow.Author.Tests.{eq-eqb, ne_eqb, not-false}
use Rattle.frequencies.specs.declared.Frequency.{Frequency}
use Rattle.basics.specs.Outcomes.{refusal, if_done, Test, when, first_refusal, rule_test, Outcome}
use Rattle.basics.specs.declared.Refusal.TheVariants as why
use Rattle.basics.proofs.RefusalLaws.{done, if_done_lem, if_refused, passes, stops, none_left, NoneApplies, none_applies, asked-on, ended-there}
use Rattle.station.specs.Values.{empty_station}
use Rattle.station.specs.Codes.{typed_code}
use Rattle.station.specs.declared.Station.{Station}
use Rattle.vehicles.specs.Digits.{number_digits, number_tests, is_number, last_right}
use Rattle.vehicles.proofs.NameLaws.{number-length}
use Rattle.carriage.specs.Building.{are_defaults, carriage_of, build_tests, build_outcome, built_station}
use Rattle.std.specs.Prelude.{Option, ℤ}

-- a number that passes has twelve digits, and its last one is right
pub number_passed : (number : List ℕ) → done (first_refusal (number_tests number)) ≡ true → (is_number number ≡ true) × (last_right number ≡ true)
unfolding refusal
number_passed number d =
    let none = none_applies (number_tests number) refl d in
    (not-false _ none.0, not-false _ none.1.0)

module _ (number : List ℕ) (transmit : Option Frequency) (power : Option ℤ) (reference : List ℕ) (s : Station) where
  abbrev own : Station
  own = carriage_of number transmit power reference s

  abbrev outcome_of : Outcome
  outcome_of = build_outcome number transmit power reference s

  -- What is asked behind the number.
  abbrev later : List Test
  later = when (not (are_defaults s)) (Err why.NotMobileDefaults) ∷ rule_test (typed_code own) ∷ []

  -- a refusal hands back the empty station
  empty_back : (o : Outcome) → o ≡ outcome_of → done o ≡ false → (o ≡ outcome_of) × (empty_station ≡ built_station number transmit power reference s)
  unfolding built_station
  empty_back o e d = (e, sym (if_refused outcome_of own empty_station (ap done (sym e) ∙ d)))

  -- The number is refused,
  pub number_refused : (o : Outcome) → o ≡ first_refusal (number_tests number) → done o ≡ false → (o ≡ outcome_of) × (empty_station ≡ built_station number transmit power reference s)
  unfolding build_outcome
  number_refused o e d = empty_back o (e ∙ ended-there (number_tests number) later (ap done (sym e) ∙ d)) d

  -- or passes, and the rest is asked.
  asked : done (first_refusal (number_tests number)) ≡ true → outcome_of ≡ first_refusal later
  unfolding build_outcome refusal
  asked d = asked-on (number_tests number) later (none_applies (number_tests number) refl d)

  -- Then the defaults are refused,
  pub defaults_refused : done (first_refusal (number_tests number)) ≡ true → not (are_defaults s) ≡ true → ((Err why.NotMobileDefaults) ≡ outcome_of) × (empty_station ≡ built_station number transmit power reference s)
  unfolding refusal
  defaults_refused d n = empty_back (Err why.NotMobileDefaults) (sym (asked d ∙ stops (Err why.NotMobileDefaults) (rule_test (typed_code own) ∷ []) n)) refl

  -- or the station that they make,
  pub rule_refused : done (first_refusal (number_tests number)) ≡ true → not (are_defaults s) ≡ false → (typed_code own ≡ 0 → ⊥) → (Err (why.RuleBroken (typed_code own)) ≡ outcome_of) × (empty_station ≡ built_station number transmit power reference s)
  unfolding refusal
  rule_refused d n b =
      empty_back (Err (why.RuleBroken (typed_code own))) (sym (asked d ∙ passes (Err why.NotMobileDefaults) (rule_test (typed_code own) ∷ []) n ∙ stops (Err (why.RuleBroken (typed_code own))) [] (ap not (ne_eqb (typed_code own) 0 b)))) refl

  -- or nothing, and it is handed out.
  pub handed_out : done (first_refusal (number_tests number)) ≡ true → not (are_defaults s) ≡ false → typed_code own ≡ 0 → ((Ok tt) ≡ outcome_of) × (own ≡ built_station number transmit power reference s)
  unfolding refusal built_station
  handed_out d n z =
      let e : outcome_of ≡ (Ok tt) = asked d ∙ passes (Err why.NotMobileDefaults) (rule_test (typed_code own) ∷ []) n ∙ passes (Err (why.RuleBroken (typed_code own))) [] (ap not (eq-eqb (typed_code own) 0 z)) ∙ none_left in
      (sym e, sym (if_done_lem outcome_of own empty_station (ap done e)))
