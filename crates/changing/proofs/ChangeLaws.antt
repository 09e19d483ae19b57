-- A record read, its station changed and written back: the three calls together end as a change does.
use Rattle.std.specs.Prelude.{Ok, Err}
use mathlib.Core.Path.{◌≡◌, refl, sym, ap, ◌∙◌}
use mathlib.Core.Bool.{Bool, true, false}
use mathlib.Core.List.{List, [], ◌∷◌}
use Prim.Native.Nat.{ℕ}
use borrow.Author.Tests.{eqb-true, not-false}
use Rattle.basics.specs.Outcomes.{refusal, if_done, record_test, rule_test, judged, Outcome}
use Rattle.basics.specs.declared.Refusal.TheVariants as why
use Rattle.basics.proofs.RefusalLaws.{done, done_is, if_done_lem, if_refused, none_applies, asked-on, ended-there}
use Rattle.basics.proofs.CallLaws.{accepted}
use Rattle.station.specs.Values.{empty_station}
use Rattle.station.specs.Spelling.{spell_station}
use Rattle.station.specs.Codes.{value_of, station_code, typed_code}
use Rattle.station.specs.Calls.{read_outcome, read_station, set_outcome, set_station, write_outcome, written_station}
use Rattle.station.specs.Promises.{StationSet}
use Rattle.station.specs.declared.Station.{Station}
use Rattle.station.specs.declared.setting.Settled.{Settled}
use Rattle.reading.specs.Promises.{StationRead}
use Rattle.reading.specs.declared.typed.ReadStation.{ReadStation}
use Rattle.changing.specs.Changing.{change_outcome, changed_record}
use Rattle.settling.specs.Promises.{then, RecordSettled}
use Rattle.settling.proofs.ThenLaws.{first_ends, second_ends}
use Rattle.changing.specs.Promises.{RecordChanged}
use Rattle.respelling.proofs.RespellLaws.{taken}

-- For a record that was read, and its station that was set:
module _ (change : Station → Station) (r : List ℕ) (read : ReadStation) (settled : Settled) (p : StationRead r read) (q : StationSet read.station (change read.station) settled) where
  abbrev written : Outcome
  written = write_outcome settled.station r

  module _ (d : done read.outcome ≡ true) where
    yes : done (read_outcome r) ≡ true
    yes = ap done (sym p.0) ∙ d

    -- the station that was read is the one that the record says,
    value : read.station ≡ value_of r
    unfolding read_station
    value = p.1 ∙ if_done_lem (read_outcome r) (value_of r) empty_station yes

    -- so that the change is judged by the changed station,
    judged_so : change_outcome change r ≡ set_outcome (change (value_of r))
    unfolding change_outcome set_outcome judged read_outcome refusal
    judged_so =
        asked-on (record_test r ∷ rule_test (station_code r) ∷ []) (rule_test (typed_code (change (value_of r))) ∷ [])
        (none_applies (record_test r ∷ rule_test (station_code r) ∷ []) refl yes)

    settled_so : settled.outcome ≡ change_outcome change r
    settled_so = q.0 ∙ ap (λ (s : Station). set_outcome (change s)) value ∙ sym judged_so

    module _ (t : done settled.outcome ≡ true) where
      made : done (set_outcome (change (value_of r))) ≡ true
      made = ap done (sym (settled_so ∙ judged_so)) ∙ t

      -- and where it is not refused it is settled
      own : settled.station ≡ change (value_of r)
      unfolding set_station
      own = q.1 ∙ rw value (if_done_lem (set_outcome (change (value_of r))) (change (value_of r)) (value_of r) made)

      -- and may be written without being judged again.
      pub may_put : written ≡ Ok tt
      unfolding set_outcome judged read_outcome write_outcome refusal
      may_put =
          let code : typed_code (change (value_of r)) ≡ 0 = eqb-true (typed_code (change (value_of r))) 0 (not-false _ (none_applies (rule_test (typed_code (change (value_of r))) ∷ []) refl made).0) in
          taken r (typed_code settled.station) (Err why.BufferLength) (accepted r (station_code r) (Err why.RecordLength) refl yes).0 (ap typed_code own ∙ code)

  -- What such a record holds after it:
  module _ {answer : Outcome} {after : List ℕ} (h : RecordSettled read settled r answer after) where
    -- a record that reading refuses ends the change,
    reading_refused : done read.outcome ≡ false → RecordChanged change r answer after
    unfolding change_outcome changed_record read_outcome
    reading_refused f =
        let no : done (read_outcome r) ≡ false = ap done (sym p.0) ∙ f in
        let ends : read_outcome r ≡ change_outcome change r = ended-there (record_test r ∷ rule_test (station_code r) ∷ []) (rule_test (typed_code (change (value_of r))) ∷ []) no in (
          h.0 ∙ first_ends read.outcome (then settled.outcome written) f ∙ p.0 ∙ ends,
          h.1 ∙ if_refused read.outcome _ r f ∙ sym (if_refused (change_outcome change r) _ r (ap done (sym ends) ∙ no)),
        )

    -- setting may end it,
    setting_refused : done read.outcome ≡ true → done settled.outcome ≡ false → RecordChanged change r answer after
    unfolding changed_record
    setting_refused d f = (
      h.0 ∙ second_ends read.outcome (then settled.outcome written) d ∙ first_ends settled.outcome written f ∙ settled_so d,
      h.1 ∙ if_done_lem read.outcome _ r d ∙ if_refused settled.outcome _ r f ∙ sym (if_refused (change_outcome change r) _ r (ap done (sym (settled_so d)) ∙ f)),
    )

    -- or it is written.
    setting_done : done read.outcome ≡ true → done settled.outcome ≡ true → RecordChanged change r answer after
    unfolding changed_record written_station refusal
    setting_done d t =
        let put = may_put d t in
        let over : change_outcome change r ≡ (Ok tt) = sym (settled_so d) ∙ done_is settled.outcome t in (
          h.0 ∙ second_ends read.outcome (then settled.outcome written) d ∙ second_ends settled.outcome written t ∙ put ∙ sym over,
          h.1 ∙ if_done_lem read.outcome _ r d ∙ if_done_lem settled.outcome _ r t
              ∙ ap (λ (x : Outcome). if_done x (spell_station settled.station) r) put ∙ if_done_lem (Ok tt) (spell_station settled.station) r refl ∙ ap spell_station (own d t)
              ∙ sym (ap (λ (x : Outcome). if_done x (spell_station (change (value_of r))) r) over ∙ if_done_lem (Ok tt) (spell_station (change (value_of r))) r refl),
        )

    -- and so the record holds the changed station's spelling, or what it held.
    pub settled_record : RecordChanged change r answer after
    settled_record = by (done read.outcome) refl (done settled.outcome) refl
      where
        by : (a : Bool) → done read.outcome ≡ a → (b : Bool) → done settled.outcome ≡ b → RecordChanged change r answer after
        by false x b y = reading_refused x
        by true x false y = setting_refused x y
        by true x true y = setting_done x y
