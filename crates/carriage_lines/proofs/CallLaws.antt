-- How filing a carriage's line ends, and what it leaves.
use Rattle.std.specs.Prelude.{Err}
use mathlib.Core.Path.{◌≡◌, refl, sym, ap, ◌∙◌}
use mathlib.Core.Bool.{true, false, not, cond}
use mathlib.Core.List.{List, [], ◌∷◌, ◌++◌}
use Prim.Native.Nat.{ℕ}
use lib.ListN.{length}
use lib.Dec.{eqb}
use borrow.Author.Tests.{eq-eqb, ne_eqb, eqb-true}
use Rattle.columns.specs.Texts.{sized}
use Rattle.basics.specs.Fields.{record_length}
use Rattle.basics.specs.Outcomes.{refusal, if_done, Test, first_refusal, rule_test, judged, Outcome}
use Rattle.basics.specs.declared.Refusal.TheVariants as why
use Rattle.basics.proofs.RefusalLaws.{done, if_done_lem, if_refused, passes, stops, none_applies, asked-on, ended-there}
use Rattle.station.specs.Values.{empty_station}
use Rattle.station.specs.Calls.{read_outcome, read_station, write_outcome, written_station}
use Rattle.station.specs.Codes.{value_of, station_code, typed_code}
use Rattle.station.specs.declared.Station.{Station}
use Rattle.station.proofs.RoundTrip.{read_fits}
use Rattle.station.specs.Spelling.{spell_station}
use Rattle.carriage_lines.specs.Lines.{carriage_record}
use Rattle.carriage_lines.proofs.GivenLaws.{done-code}
use Rattle.carriage_lines.specs.Calls.{given_tests, filing_tests, carriage_filing, filed_carriage}

module _ (t d out : List ℕ) where
  -- How it ends, and what is left in the lent bytes.
  abbrev Files : Outcome → List ℕ → Type 0
  Files answer after = (answer ≡ carriage_filing t d out) × (after ≡ filed_carriage t d out)

  -- The record that is made, and the test on it.
  abbrev made : List ℕ
  made = carriage_record t d

  abbrev rule : List Test
  rule = rule_test (station_code made) ∷ []

  refused : (o : Outcome) → o ≡ carriage_filing t d out → done o ≡ false → Files o out
  unfolding filed_carriage
  refused o e z = (e, sym (if_refused (carriage_filing t d out) (spell_station (value_of made)) out (ap done (sym e) ∙ z)))

  -- Lent bytes of another length are refused,
  pub not_the_length : (length out ≡ record_length → ⊥) → Files (Err why.BufferLength) out
  unfolding carriage_filing refusal
  not_the_length n = refused (Err why.BufferLength) (sym (stops (Err why.BufferLength) (given_tests t d ++ rule) (ap not (ne_eqb (length out) record_length n)))) refl

  module _ (n : length out ≡ record_length) where
    given-asked : carriage_filing t d out ≡ first_refusal (given_tests t d ++ rule)
    unfolding carriage_filing
    given-asked = passes (Err why.BufferLength) (given_tests t d ++ rule) (ap not (eq-eqb (length out) record_length n))

    -- or the line, or the defaults;
    pub given_refused : (o : Outcome) → o ≡ first_refusal (given_tests t d) → done o ≡ false → Files o out
    given_refused o e z = refused o (e ∙ ended-there (given_tests t d) rule (ap done (sym e) ∙ z) ∙ sym given-asked) z

    -- and any others go by the record that they make.
    pub made_filed : done (first_refusal (given_tests t d)) ≡ true → (o : Outcome) (after : List ℕ) → o ≡ judged (station_code made) → after ≡ if_done o (spell_station (value_of made)) out → Files o after
    unfolding filed_carriage judged refusal
    made_filed y o after e l =
        let ends : o ≡ carriage_filing t d out = e ∙ sym (given-asked ∙ asked-on (given_tests t d) rule (none_applies (given_tests t d) refl y)) in
        (ends, l ∙ ap (λ (x : Outcome). if_done x (spell_station (value_of made)) out) ends)

-- The defaults are copied into as many bytes.
pub copied : (s d : List ℕ) → length d ≡ record_length → length s ≡ record_length → (after : List ℕ) → after ≡ cond (sized (length d) s) d s → after ≡ d
copied s d n m after e = e ∙ rw (eq-eqb (length s) (length d) (m ∙ sym n))

-- A record that was made, and read.
module _ (t d out : List ℕ) (rec : List ℕ) (is : rec ≡ carriage_record t d) (size : length rec ≡ record_length) where
  -- How filing it ends, and what is left in the lent bytes.
  abbrev Made : Outcome → List ℕ → Type 0
  Made o after = (o ≡ judged (station_code (carriage_record t d))) × (after ≡ if_done o (spell_station (value_of (carriage_record t d))) out)

  by_code : (o : Outcome) → o ≡ read_outcome rec → o ≡ judged (station_code (carriage_record t d))
  unfolding read_outcome judged
  by_code o e = e ∙ passes (Err why.RecordLength) (rule_test (station_code rec) ∷ []) (ap not (eq-eqb (length rec) record_length size)) ∙ ap (λ (x : List ℕ). judged (station_code x)) is

  -- One that breaks a rule is refused,
  pub made_broken : (o : Outcome) → o ≡ read_outcome rec → done o ≡ false → Made o out
  made_broken o e z = (by_code o e, sym (if_refused o (spell_station (value_of (carriage_record t d))) out z))

  -- and of any other the station is written.
  pub made_done : (o : Outcome) (s : Station) → o ≡ read_outcome rec → s ≡ read_station rec → done o ≡ true → (after : List ℕ) → after ≡ spell_station s → Made o after
  unfolding read_station
  made_done o s e es y after written =
      let value : s ≡ value_of rec = es ∙ if_done_lem (read_outcome rec) (value_of rec) empty_station (ap done (sym e) ∙ y) in
      (by_code o e, written ∙ ap spell_station (value ∙ ap value_of is) ∙ sym (if_done_lem o (spell_station (value_of (carriage_record t d))) out y))
