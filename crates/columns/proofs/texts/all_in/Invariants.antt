-- `columns::texts::all_in` meets its contract: what was found so far holds of the bytes that were passed.
use mathlib.Core.Path.{◌≡◌}
use mathlib.Core.Bool.{◌&&◌}
use lib.ListN.{drop}
use Rattle.columns.specs.Sets.{set_of}
use Rattle.columns.specs.Texts.{every}
use Rattle.columns.proofs.texts.all_in.Given as goal

abbrev pub invariant-loop-c : goal.invariant-loop-c
invariant-loop-c l = every (set_of l.set) l.s ≡ (l.all && every (set_of l.set) (drop l.c-index l.s))
