-- `desk_replaying::desk_replay` meets its contract.
use mathlib.Core.Path.{ap, ◌∙◌}
use Rattle.basics.specs.Outcomes.{refusal, Outcome}
use Rattle.desk_replaying.proofs.desk_replay.Goals as goal

pub returns : goal.returns
returns c =
    (c.refusal_number.ensures ∙ ap (λ (o : Outcome). refusal o) c.replay-replayed.ensures.0, c.replay-replayed.ensures.1, c.replay-replayed.ensures.2, c.replay-replayed.ensures.3, c.replay-replayed.ensures.4, c.replay-replayed.ensures.5)
