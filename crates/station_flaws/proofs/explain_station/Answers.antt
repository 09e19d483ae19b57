-- `station_flaws::explain_station` meets its contract.
use mathlib.Core.Path.{ap, ◌∙◌}
use Rattle.basics.specs.Outcomes.{code_with}
use Rattle.coordination_flaws.specs.Flaws.{record_flaw}
use Rattle.station_flaws.specs.Calls.{flaw_of_reading}
use Rattle.station_flaws.proofs.LengthLaws.{no_record}
use Rattle.station_flaws.proofs.explain_station.Goals as goal

pub returns-then-rec-ne219 : goal.returns-then-rec-ne219
returns-then-rec-ne219 c = (c.check_station-outcome.ensures, no_record _ c.if-rec-ne219.true)

pub returns : goal.returns
unfolding flaw_of_reading
returns c = (c.check_station-outcome.ensures, c.record_flaw-flaw.ensures ∙ ap (record_flaw c.args.rec.now) (c.code_with.ensures ∙ ap code_with c.check_station-outcome.ensures))
