-- `splitting::marks::field_length` meets its contract: the bytes that were passed are no marks.
use Rattle.semicolons.specs.Marks.{Passed}
use Rattle.splitting.proofs.marks.field_length.Given as goal

abbrev pub invariant-loop-i : goal.invariant-loop-i
invariant-loop-i l = Passed l.s l.i
