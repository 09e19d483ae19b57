-- What filing a gathered line promises, as a relation between what it is given, its answer and what it leaves.
use Rattle.basics.specs.Outcomes.{Outcome}
use Rattle.std.specs.Prelude.{ℕ, ◌≡◌, List}
use Rattle.gathering.specs.declared.Gathered.{Gathered}
use Rattle.gathered_records.specs.Calls.{gathered_filing, filed_gathered}

-- `file_gathered` into 219 lent bytes: how it ends, and what they hold after it.
abbrev pub GatheredFiled : List ℕ → Gathered → List ℕ → Outcome → List ℕ → Type 0
GatheredFiled buffer g before answer after = (answer ≡ gathered_filing buffer g before) × (after ≡ filed_gathered buffer g before)
