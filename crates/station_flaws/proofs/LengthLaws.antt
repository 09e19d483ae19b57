-- The flaw of a record that is refused for its length.
use mathlib.Core.Path.{◌≡◌}
use mathlib.Core.List.{List}
use Prim.Native.Nat.{ℕ}
use lib.ListN.{length}
use borrow.Author.Tests.{ne_eqb}
use Rattle.basics.specs.Outcomes.{first_refusal, code_with}
use Rattle.flaws.specs.declared.Flaw.TheVariants as flaw
use Rattle.station.specs.Calls.{read_outcome}
use Rattle.coordination_flaws.specs.Flaws.{record_flaw}
use Rattle.station_flaws.specs.Calls.{flaw_of_reading}

-- a record of another length has no code, and so no flaw
pub no_record : (r : List ℕ) → (length r ≡ 219 → ⊥) → flaw.None ≡ flaw_of_reading r
unfolding flaw_of_reading read_outcome first_refusal code_with record_flaw
no_record r n = rw (ne_eqb (length r) 219 n)
