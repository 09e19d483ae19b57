-- `list_in::take_piece` meets its contract: it goes on by a line each turn, and a line has at least one byte.
use Prim.Native.Nat.{◌-◌, ◌≤◌}
use lib.ListN.{length, take}
use Rattle.gathering.specs.Cutting.{open_line}
use Rattle.gathering.specs.Gathering.{Follows}
use Rattle.list_in.proofs.take_piece.Given as goal

abbrev pub invariant-loop-at : goal.invariant-loop-at
invariant-loop-at l = (l.at ≤ length l.piece) × Follows l.initial.line l.initial.further.gathered l.line l.further.gathered (λ p. open_line p (take l.at l.piece))

abbrev pub decreases-loop-at : goal.decreases-loop-at
decreases-loop-at l = length l.piece - l.at
