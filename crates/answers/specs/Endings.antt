-- Document 01, "Refusal numbers": how the end of a call is told in numbers.
use Rattle.std.specs.Prelude.{ℕ, ◌≡◌, List}
use Rattle.basics.specs.Outcomes.{refusal, code_with, Outcome}

-- How a call ended, as numbers: the answer is the refusal's number, and the lent byte holds the code that comes with it.
abbrev pub Answered : Outcome → ℕ → ℕ → Type 0
Answered o answer code = (answer ≡ refusal o) × (code ≡ code_with o)

-- The same of a call that may write: the lent bytes hold what it has to leave there.
abbrev pub AnsweredLeaving : Outcome → List ℕ → ℕ → List ℕ → ℕ → Type 0
AnsweredLeaving o left answer after code = Answered o answer code × (after ≡ left)
