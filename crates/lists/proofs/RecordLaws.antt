-- How listing a record and filing a line end, by the tests that they pass.
use Rattle.std.specs.Prelude.{Err}
use mathlib.Core.Path.{◌≡◌, refl, sym, ap, ◌∙◌}
use mathlib.Core.Bool.{true, false}
use mathlib.Core.List.{List, [], ◌∷◌}
use Prim.Native.Nat.{ℕ}
use lib.Dec.{eqb}
use lib.ListN.{length}
use borrow.Author.Tests.{eq-eqb, ne_eqb}
use Rattle.basics.specs.Fields.{record_length}
use Rattle.basics.specs.Outcomes.{refusal, if_done, Test, first_refusal, record_test, rule_test, Outcome}
use Rattle.basics.specs.declared.Refusal.TheVariants as why
use Rattle.basics.proofs.RefusalLaws.{done, if_done_lem, if_refused, passes, ended-there}
use Rattle.basics.proofs.CallLaws.{accepted}
use Rattle.station.specs.Codes.{value_of, station_code, typed_code}
use Rattle.station.specs.Spelling.{spell_station}
use Rattle.station.specs.Calls.{read_outcome}
use Rattle.station.specs.declared.Station.{Station}
use Rattle.station.proofs.RoundTrip.{read_fits}
use Rattle.lists.specs.Calls.{line_tests, room_test, line_outcome, station_in_line, write_line_outcome, line_length, written_line, record_listing, listed_length, listed_record, line_filing, filed_line}

module _ (r buffer : List ℕ) where
  -- How listing a record into a buffer ends, and what is answered and left.
  abbrev Lists : Outcome → ℕ → List ℕ → Type 0
  Lists answer n after = (answer ≡ record_listing r buffer) × (n ≡ listed_length r buffer) × (after ≡ listed_record r buffer)

  -- what listing asks of the record, as reading does
  abbrev asked : List Test
  asked = record_test r ∷ rule_test (station_code r) ∷ []

  module _ (o : Outcome) (eo : o ≡ read_outcome r) where
    -- A record that reading refuses is refused,
    pub record_refused : done o ≡ false → Lists o 0 buffer
    unfolding read_outcome record_listing listed_length listed_record
    record_refused f =
        let no : done (first_refusal asked) ≡ false = ap done (sym eo) ∙ f in
        let ends : o ≡ record_listing r buffer = eo ∙ ended-there asked (room_test (value_of r) buffer ∷ []) no in
        let refused : done (record_listing r buffer) ≡ false = ap done (sym ends) ∙ f in
        (ends, sym (if_refused (record_listing r buffer) _ 0 refused), sym (if_refused (record_listing r buffer) _ buffer refused))

    -- any other has its length and breaks no rule,
    module _ (d : done o ≡ true) where
      pub taken : (length r ≡ record_length) × (station_code r ≡ 0)
      unfolding read_outcome refusal
      taken = accepted r (station_code r) (Err why.RecordLength) refl (ap done (sym eo) ∙ d)

      pub value_fits : typed_code (value_of r) ≡ 0
      value_fits = read_fits r taken.0 taken.1

      -- and its station is listed as its line is written.
      pub record_listed : (v : Station) → v ≡ value_of r → (answer : Outcome) (m : ℕ) (after : List ℕ) → answer ≡ write_line_outcome v buffer → m ≡ line_length v buffer → after ≡ written_line v buffer → Lists answer m after
      unfolding record_listing listed_length listed_record write_line_outcome line_length written_line first_refusal
      record_listed v value answer m after ea em el =
          let s : eqb (length r) record_length ≡ true = eq-eqb (length r) record_length taken.0 in
          (ea ∙ rw (value, s, taken.1, value_fits), em ∙ rw (value, s, taken.1, value_fits), el ∙ rw (value, s, taken.1, value_fits))

module _ (t out : List ℕ) where
  -- How filing a line into lent bytes ends, and what is left there.
  abbrev Files : Outcome → List ℕ → Type 0
  Files answer after = (answer ≡ line_filing t out) × (after ≡ filed_line t out)

  -- Bytes of another length are refused,
  pub not_the_length : (length out ≡ record_length → ⊥) → Files (Err why.BufferLength) out
  unfolding line_filing filed_line first_refusal if_done refusal
  not_the_length n =
      let z : eqb (length out) record_length ≡ false = ne_eqb (length out) record_length n in
      (rw z, rw z)

  module _ (n : length out ≡ record_length) (o : Outcome) (eo : o ≡ line_outcome t) where
    -- and else filing ends as reading does:
    ends : o ≡ line_filing t out
    unfolding line_filing line_outcome
    ends = eo ∙ sym (passes (Err why.BufferLength) (line_tests t) (rw (eq-eqb (length out) record_length n)))

    -- a line that is refused leaves them as they were,
    pub line_refused : done o ≡ false → Files o out
    unfolding filed_line
    line_refused z = (ends, sym (if_refused (line_filing t out) _ out (ap done (sym ends) ∙ z)))

    -- and any other puts its station there.
    pub line-filed : done o ≡ true → (v : Station) → v ≡ station_in_line t → (after : List ℕ) → after ≡ spell_station v → Files o after
    unfolding filed_line
    line-filed z v ev after e =
        let filed : if_done (line_filing t out) (spell_station (station_in_line t)) out ≡ spell_station (station_in_line t) = if_done_lem (line_filing t out) _ out (ap done (sym ends) ∙ z) in
        (ends, e ∙ ap spell_station ev ∙ sym filed)
