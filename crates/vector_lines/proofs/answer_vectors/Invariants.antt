-- `vector_lines::answer_vectors` is safe and ends: each vector leaves less behind it.
use Rattle.std.proofs.Common.{length, ◌+◌, ◌≤◌}
use Rattle.vector_lines.proofs.answer_vectors.Given as goal

abbrev pub invariant-loop-rest : goal.invariant-loop-rest
invariant-loop-rest g l = goal.F-IsAlwaysCallable g l.answer × (l.count + length l.rest ≤ length l.vectors)

abbrev pub decreases-loop-rest : goal.decreases-loop-rest
decreases-loop-rest g l = length l.rest
