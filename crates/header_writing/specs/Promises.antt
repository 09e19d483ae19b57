-- What writing a header promises, as a relation between what it is given, its answer and what it leaves in the lent bytes.
use Rattle.basics.specs.Outcomes.{Outcome}
use Rattle.std.specs.Prelude.{ℕ, ◌≡◌, List}
use Rattle.header.specs.Calls.{write_header_outcome, written_header}
use Rattle.header.specs.declared.Header.{Header}

-- `write_header` of a header into a buffer: how it ends, and what the buffer holds after it.
abbrev pub HeaderWritten : Header → List ℕ → Outcome → List ℕ → Type 0
HeaderWritten h before answer after = (answer ≡ write_header_outcome h before) × (after ≡ written_header h before)
