-- `basics::rules::broken_from` meets its contract: the rules that were passed hold.
use Prim.Native.Nat.{◌+◌}
use mathlib.Core.Path.{◌≡◌}
use lib.ListN.{drop}
use Rattle.basics.specs.Rules.{first_broken}
use Rattle.basics.proofs.rules.broken_from.Given as goal

abbrev pub invariant-loop-i : goal.invariant-loop-i
invariant-loop-i l = first_broken l.first l.rules ≡ first_broken (l.first + l.i) (drop l.i l.rules)
