-- What judging a header's record promises, as relations between what it is given and its answers.
use Rattle.basics.specs.Outcomes.{Outcome}
use Rattle.std.specs.Prelude.{ℕ, ◌≡◌, List}
use Rattle.header.specs.Calls.{read_header_outcome, filed_header_outcome}

-- `check_header` on a record: how reading it ends.
abbrev pub HeaderChecked : List ℕ → Outcome → Type 0
HeaderChecked r answer = answer ≡ read_header_outcome r

-- `check_filed_header` on a record in a file of n stations: how judging it ends, code 15 included.
abbrev pub HeaderFiled : List ℕ → ℕ → Outcome → Type 0
HeaderFiled r n answer = answer ≡ filed_header_outcome r n
