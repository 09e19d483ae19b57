-- `splitting::marks::count` meets its contract: what was counted, and what is still to come, are all.
use Prim.Native.Nat.{◌+◌, ◌≤◌}
use mathlib.Core.Path.{◌≡◌}
use lib.Dec.{eqb}
use lib.ListN.{length}
use Rattle.columns.specs.Texts.{how_many}
use Rattle.splitting.proofs.marks.count.Given as goal

abbrev pub invariant-loop-part : goal.invariant-loop-part
invariant-loop-part l =
    (l.part-iterator.size ≡ 255) × (l.n + length l.part-iterator.rest.now ≤ length l.line)
    × (l.n + how_many (λ c. eqb c l.mark) l.part-iterator.rest.now ≡ how_many (λ c. eqb c l.mark) l.line)
