-- `reading::typed::read_station` meets its contract: a record that is not refused has 219 bytes and breaks no rule.
use Rattle.std.specs.Prelude.{Err}
use mathlib.Core.Path.{◌≡◌, refl, sym, ap, ◌∙◌}
use mathlib.Core.Bool.{true}
use mathlib.Core.List.{List, ◌++◌}
use Prim.Native.Nat.{ℕ}
use lib.ListN.{length}
use Rattle.basics.specs.Fields.{record_length}
use Rattle.basics.specs.Outcomes.{refusal}
use Rattle.basics.specs.Rules.{All}
use Rattle.basics.specs.declared.Refusal.TheVariants as why
use Rattle.basics.proofs.RuleLaws.{all_hold, all_front}
use Rattle.basics.proofs.RefusalLaws.{ok-done, done}
use Rattle.basics.proofs.CallLaws.{accepted, handed}
use Rattle.station.specs.Places.{fields_of}
use Rattle.station.specs.Rules.{field_rules}
use Rattle.station.specs.Between.{between_rules}
use Rattle.station.specs.Values.{empty_station}
use Rattle.station.specs.Codes.{value_of, station_code}
use Rattle.station.specs.Calls.{read_outcome, read_station}
use Rattle.reading.proofs.typed.read_station.Goals as goal
use Rattle.reading.proofs.typed.read_station.Goals.{After-is_ok}

-- a record that is not refused has its length, and the thirty hold
fits : (r : List ℕ) → done (read_outcome r) ≡ true → (length r ≡ record_length) × All (field_rules (fields_of r))
unfolding read_outcome station_code refusal
fits r e =
    let f = field_rules (fields_of r) in
    let b = between_rules (value_of r) in
    let all = accepted r (station_code r) (Err why.RecordLength) refl e in
    (all.0, all_front f b (all_hold 0 (f ++ b) all.1))

-- what the test says of the record
tested : (c : After-is_ok) → c.is_ok.result ≡ done (read_outcome c.args.rec.now)
tested c = (c.is_ok.ensures.value ∙ ok-done _) ∙ ap done c.check_station-outcome.ensures

pub station_in-requires : goal.station_in-requires
station_in-requires c =
    let r = c.args.rec.now in
    fits r (sym (tested (goal.at.station_in-requires c).After-is_ok) ∙ c.if-is_ok.true)

pub returns-then-is_ok : goal.returns-then-is_ok
unfolding read_station
returns-then-is_ok c =
    let r = c.args.rec.now in
    (c.check_station-outcome.ensures, c.station_in.ensures ∙ handed (read_outcome r) (value_of r) empty_station (sym c.if-is_ok.true ∙ (tested (goal.at.returns-then-is_ok c).After-is_ok)))

pub returns : goal.returns
unfolding read_station
returns c =
    let r = c.args.rec.now in
    (c.check_station-outcome.ensures, c.empty_station.ensures ∙ handed (read_outcome r) (value_of r) empty_station (sym c.if-is_ok.false ∙ (tested (goal.at.returns c).After-is_ok)))
