-- `chains::chaining::walk` meets its contract: from one station of the chain to the next, whoever takes part.
use Rattle.chains.proofs.WalkLaws.{Way}
use Rattle.chains.proofs.chaining.walk.Given as goal

abbrev pub invariant-loop-j : goal.invariant-loop-j
invariant-loop-j l = Way l.key l.file l.nexts l.start l.k l.j

abbrev pub decreases-loop-j : goal.decreases-loop-j
decreases-loop-j l = l.j
