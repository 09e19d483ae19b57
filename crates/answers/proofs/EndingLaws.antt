-- Outcomes that are equal are told in equal numbers.
use mathlib.Core.Path.{◌≡◌, ap, ◌∙◌}
use mathlib.Core.List.{List}
use Prim.Native.Nat.{ℕ}
use Rattle.basics.specs.Outcomes.{refusal, code_with, Outcome}
use Rattle.answers.specs.Endings.{Answered, AnsweredLeaving}

-- A call that ended so is told so,
pub answered : {o p : Outcome} {answer code : ℕ} → Answered o answer code → o ≡ p → Answered p answer code
answered a e = (a.0 ∙ ap refusal e, a.1 ∙ ap code_with e)

-- and leaves what the call left.
pub answered_leaving : {o p : Outcome} {left after : List ℕ} {answer code : ℕ} → Answered o answer code → (o ≡ p) × (after ≡ left) → AnsweredLeaving p left answer after code
answered_leaving a e = (answered a e.0, e.1)
