-- `columns::texts::is_framed` meets its contract: what was found so far holds of the bytes that were passed.
use mathlib.Core.Path.{◌≡◌}
use mathlib.Core.Bool.{◌&&◌}
use lib.ListN.{drop}
use Rattle.columns.specs.Texts.{each}
use Rattle.columns.specs.Frames.{frames}
use Rattle.columns.proofs.texts.is_framed.Given as goal

abbrev pub invariant-loop-i : goal.invariant-loop-i
invariant-loop-i l = each (frames l.low l.high) l.s ≡ (l.all && each (frames (drop l.i l.low) (drop l.i l.high)) (drop l.i l.s))
