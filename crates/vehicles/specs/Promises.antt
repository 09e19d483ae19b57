-- What the calls on vehicle numbers promise, as relations between what they are given and their answers.
use Rattle.std.specs.Prelude.{ℕ, ◌≡◌, List}
use Rattle.std.specs.Borrow.{Bor}
use Rattle.basics.specs.Pieces.{StandsAt}
use Rattle.basics.specs.Outcomes.{first_refusal, Outcome}
use Rattle.vehicles.specs.Digits.{number_tests}
use Rattle.vehicles.specs.Names.{number_in, number_offset}

-- `check_number`: 14, 15, or done.
abbrev pub NumberChecked : List ℕ → Outcome → Type 0
NumberChecked t answer = answer ≡ first_refusal (number_tests t)

-- `number_in`: the piece of the name itself that is its number.
abbrev pub NumberFound : Bor (List ℕ) → Bor (List ℕ) → Type 0
NumberFound name answer = (answer.now ≡ number_in name.now) × StandsAt name (number_offset name.now) answer
