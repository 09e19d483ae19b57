-- `splitting::marks::count_few` meets its contract: what was counted, and what is still to come, are all.
use Prim.Native.Nat.{◌+◌, ◌≤◌}
use mathlib.Core.Path.{◌≡◌}
use lib.Dec.{eqb}
use lib.ListN.{drop}
use Rattle.columns.specs.Texts.{how_many}
use Rattle.splitting.proofs.marks.count_few.Given as goal

abbrev pub invariant-loop-c : goal.invariant-loop-c
invariant-loop-c l = (l.n ≤ l.c-index) × (l.n + how_many (λ c. eqb c l.mark) (drop l.c-index l.text) ≡ how_many (λ c. eqb c l.mark) l.text)
