-- One call and then another.
use Rattle.basics.specs.Outcomes.{Outcome}
use mathlib.Core.Path.{◌≡◌}
use mathlib.Core.Bool.{true, false}
use Rattle.basics.proofs.RefusalLaws.{done, if_done_lem, if_refused}
use Rattle.settling.specs.Promises.{then}

-- A second call counts only where the first is done.
pub first_ends : (a b : Outcome) → done a ≡ false → then a b ≡ a
unfolding then
first_ends a b f = if_refused a b a f

pub second_ends : (a b : Outcome) → done a ≡ true → then a b ≡ b
unfolding then
second_ends a b d = if_done_lem a b a d
