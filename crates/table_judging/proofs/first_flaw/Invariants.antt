-- `table_judging::first_flaw` meets its contract: the fields that were passed have no flaw.
use Prim.Native.Nat.{◌+◌, ◌-◌}
use mathlib.Core.Path.{◌≡◌}
use lib.ListN.{length, drop}
use Rattle.basics.specs.Rules.{first_broken}
use Rattle.flaw_parts.specs.Parts.{flawless_all}
use Rattle.walking.specs.Walks.{flaws_by}
use borrow.Author.Rules.{rules}
use Rattle.table_judging.proofs.first_flaw.Given as goal

abbrev pub invariant-loop-i : goal.invariant-loop-i
invariant-loop-i l = let rules = flawless_all (flaws_by l.entries l.rec l.rows) in first_broken 1 rules ≡ first_broken (1 + l.i) (drop l.i rules)
