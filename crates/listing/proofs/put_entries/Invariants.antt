-- `listing::put_entries` meets its contract: what the list has for so many stations stands, each behind the one before it.
use mathlib.Core.Path.{◌≡◌}
use Prim.Native.Nat.{◌*◌, ◌≤◌}
use lib.ListN.{length}
use Rattle.forms.specs.Counting.{rows}
use Rattle.listing.specs.Lists.{entry_of}
use Rattle.printing.specs.Promises.{Appended}
use Rattle.listing.proofs.put_entries.Given as goal

abbrev pub invariant-loop-i : goal.invariant-loop-i
invariant-loop-i l = (length l.out ≡ length l.initial.out) × (l.end ≤ 249 * l.i) × Appended l.initial.out 0 (rows (entry_of l.file) l.i) l.out l.end
