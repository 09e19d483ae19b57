-- What is asked of a carriage's line and of its defaults, test by test.
use Rattle.std.specs.Prelude.{Ok, Err}
use mathlib.Core.Path.{◌≡◌, refl, sym, ap, ◌∙◌}
use mathlib.Core.Bool.{Bool, true, false, not, cond, ◌&&◌}
use mathlib.Core.List.{List, [], ◌∷◌, ◌++◌}
use Prim.Native.Nat.{ℕ, ◌+◌}
use native.Mathlib.Numerals.{add-one}
use lib.Dec.{eqb}
use lib.ListN.{length}
use borrow.Author.Tests.{eq-eqb, ne_eqb, eqb-true, not-false}
use Rattle.columns.specs.Texts.{how_many}
use Rattle.basics.specs.Fields.{record_length}
use Rattle.basics.specs.Outcomes.{refusal, Test, when, first_refusal, Outcome}
use Rattle.basics.specs.declared.Refusal.TheVariants as why
use Rattle.basics.proofs.RefusalLaws.{done, passes, stops, none_left, none_applies, asked-on, ended-there}
use Rattle.station.specs.Calls.{read_outcome}
use Rattle.station.specs.Codes.{station_code}
use Rattle.vehicles.specs.Digits.{number_digits, number_tests, is_number}
use Rattle.vehicles.proofs.NameLaws.{number-length}
use Rattle.semicolons.specs.Fields.{none_longer}
use Rattle.semicolons.specs.Lines.{is_semicolon, is_feed, before, behind, last_byte}
use Rattle.carriage_lines.specs.Lines.{is_carriage_line, behind_fields, field_behind, carriage_number, own_fields, own_places, is_mobile}
use Rattle.carriage_lines.specs.Calls.{given_tests}

-- behind no field the line begins,
pub behind-none : (t : List ℕ) → t ≡ behind_fields 0 t
unfolding behind_fields
behind-none t = refl

-- behind one more stands what is behind the next mark,
pub behind_next : (i : ℕ) (t : List ℕ) → behind (behind_fields i t) ≡ behind_fields (i + 1) t
unfolding behind_fields
behind_next i t = rw (add-one i)

-- and there a field begins
pub field_there : (k : ℕ) (t : List ℕ) → before (behind_fields k t) ≡ field_behind k t
unfolding field_behind
field_there k t = refl

-- the marks of a carriage's line
pub marks_are : (t : List ℕ) → (eqb (how_many is_semicolon t) 4 && (eqb (how_many is_feed t) 1 && is_feed (last_byte t))) ≡ is_carriage_line t
unfolding is_carriage_line
marks_are t = refl

-- a record of 219 bytes is taken where it breaks no rule
pub done-code : (r : List ℕ) → length r ≡ record_length → done (read_outcome r) ≡ eqb (station_code r) 0
unfolding read_outcome first_refusal refusal
done-code r n = rw (eq-eqb (length r) record_length n) (by (eqb (station_code r) 0))
  where
    by : (b : Bool) → done (cond (not b) (Err (why.RuleBroken (station_code r))) (Ok tt)) ≡ b
    by true = refl
    by false = refl

module _ (t d : List ℕ) where
  -- How asking ends.
  abbrev Ends : Outcome → Type 0
  Ends o = o ≡ first_refusal (given_tests t d)

  -- Defaults that are no record are refused,
  pub not_a_record : (length d ≡ record_length → ⊥) → Ends (Err why.RecordLength)
  unfolding first_refusal
  not_a_record n = rw (ne_eqb (length d) record_length n)

  module _ (n : length d ≡ record_length) where
    -- or what is no line,
    pub not_marked : is_carriage_line t ≡ false → Ends (Err why.NotALine)
    unfolding first_refusal
    not_marked l = rw (eq-eqb (length d) record_length n, l)

    module _ (l : is_carriage_line t ≡ true) where
      -- or one with a long field,
      pub long_own : none_longer own_places (own_fields t) ≡ false → Ends (Err why.FieldTooLong)
      unfolding first_refusal
      long_own f = rw (eq-eqb (length d) record_length n, l, f)

      module _ (f : none_longer own_places (own_fields t) ≡ true) where
        abbrev number : List Test
        number = number_tests (carriage_number t)

        abbrev mobile : List Test
        mobile = when (not (is_mobile d)) (Err why.NotMobileDefaults) ∷ []

        from_number : first_refusal (given_tests t d) ≡ first_refusal (number ++ mobile)
        from_number =
            passes (Err why.RecordLength) _ (ap not (eq-eqb (length d) record_length n))
            ∙ passes (Err why.NotALine) _ (ap not l)
            ∙ passes (Err why.FieldTooLong) (number ++ mobile) (ap not f)

        -- or with a wrong number,
        pub wrong_number : (o : Outcome) → o ≡ first_refusal number → done o ≡ false → Ends o
        wrong_number o e z = e ∙ ended-there number mobile (ap done (sym e) ∙ z) ∙ sym from_number

        module _ (y : done (first_refusal number) ≡ true) where
          from_mobile : first_refusal (given_tests t d) ≡ first_refusal mobile
          unfolding refusal
          from_mobile = from_number ∙ asked-on number mobile (none_applies number refl y)

          -- or defaults that are no accepted ML station;
          pub not-mobile : is_mobile d ≡ false → Ends (Err why.NotMobileDefaults)
          not-mobile m = sym (from_mobile ∙ stops (Err why.NotMobileDefaults) [] (ap not m))

          -- and any others are taken.
          pub all_given : is_mobile d ≡ true → Ends (Ok tt)
          all_given m = sym (from_mobile ∙ passes (Err why.NotMobileDefaults) [] (ap not m) ∙ none_left)

  -- What is taken has these properties.
  module _ (y : done (first_refusal (given_tests t d)) ≡ true) where
    pub given_record : length d ≡ record_length
    unfolding refusal
    given_record = eqb-true (length d) record_length (not-false _ (none_applies (given_tests t d) refl y).0)

    pub given_short : none_longer own_places (own_fields t) ≡ true
    unfolding refusal
    given_short = not-false _ (none_applies (given_tests t d) refl y).1.1.0

    pub given-number : is_number (carriage_number t) ≡ true
    unfolding refusal
    given-number = not-false _ (none_applies (given_tests t d) refl y).1.1.1.0

    pub given_digits : length (carriage_number t) ≡ number_digits
    given_digits = number-length (carriage_number t) given-number

    pub given-mobile : is_mobile d ≡ true
    unfolding refusal
    given-mobile = not-false _ (none_applies (given_tests t d) refl y).1.1.1.1.1.0
