-- What filing a carriage's line promises, as a relation between what it is given, its answer and what it leaves in the lent bytes.
use Rattle.basics.specs.Outcomes.{Outcome}
use Rattle.std.specs.Prelude.{ℕ, ◌≡◌, List}
use Rattle.carriage_lines.specs.Calls.{carriage_filing, filed_carriage}

-- `carriage_to_record` of a line and defaults into 219 lent bytes: how it ends, and what they hold after it.
abbrev pub CarriageFiled : List ℕ → List ℕ → List ℕ → Outcome → List ℕ → Type 0
CarriageFiled t defaults out answer after = (answer ≡ carriage_filing t defaults out) × (after ≡ filed_carriage t defaults out)
