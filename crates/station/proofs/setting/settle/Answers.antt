-- `station::setting::settle` meets its contract: the station is the changed one exactly where nothing is refused.
use mathlib.Core.Path.{◌≡◌, sym, ap, ◌∙◌}
use Rattle.basics.specs.Outcomes.{judged}
use Rattle.basics.proofs.RefusalLaws.{ok-done, done}
use Rattle.basics.proofs.CallLaws.{handed}
use Rattle.station.specs.Calls.{set_outcome, set_station}
use Rattle.station.proofs.setting.settle.Goals as goal
use Rattle.station.proofs.setting.settle.Goals.{After-is_ok, After-judged-outcome}

-- how it ends is how the changed station is judged,
ended : (c : After-judged-outcome) → c.judged-outcome.result ≡ set_outcome c.args.changed
unfolding set_outcome
ended c = c.judged-outcome.ensures ∙ ap judged c.typed_code.ensures

-- and that is what the test is about
tested : (c : After-is_ok) → (c.judged-outcome.result ≡ set_outcome c.args.changed) → c.is_ok.result ≡ done (set_outcome c.args.changed)
tested c ended = (c.is_ok.ensures.value ∙ ok-done _) ∙ ap done (ended)

pub returns-then-is_ok : goal.returns-then-is_ok
unfolding set_station
returns-then-is_ok c =
    ((ended (goal.at.returns-then-is_ok c).After-judged-outcome), handed (set_outcome c.args.changed) c.args.changed c.args.given (sym c.if-is_ok.true ∙ (tested (goal.at.returns-then-is_ok c).After-is_ok (ended (goal.at.returns-then-is_ok c).After-judged-outcome))))

pub returns : goal.returns
unfolding set_station
returns c =
    ((ended (goal.at.returns c).After-judged-outcome), handed (set_outcome c.args.changed) c.args.changed c.args.given (sym c.if-is_ok.false ∙ (tested (goal.at.returns c).After-is_ok (ended (goal.at.returns c).After-judged-outcome))))
