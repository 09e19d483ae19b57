-- `carriage_lines::field_after` meets its contract: so many fields are passed.
use mathlib.Core.Path.{◌≡◌}
use Prim.Native.Nat.{◌-◌, ◌≤◌}
use lib.ListN.{length, drop}
use Rattle.carriage_lines.specs.Lines.{behind_fields}
use Rattle.carriage_lines.proofs.field_after.Given as goal

abbrev pub invariant-loop : goal.invariant-loop
invariant-loop l = (l.counter ≤ l.k) × (l.at ≤ length l.line) × (drop l.at l.line ≡ behind_fields l.counter l.line)
