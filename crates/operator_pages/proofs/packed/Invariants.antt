-- `operator_pages::packed` meets its contract: the rows of the operators so far stand in front.
use Rattle.std.specs.Prelude.{Ok}
use mathlib.Core.Path.{◌≡◌}
use Rattle.operator_pages.proofs.PackLaws.{Packing}
use Rattle.operator_pages.proofs.packed.Given as goal

abbrev pub invariant-loop-c : goal.invariant-loop-c
invariant-loop-c l = Packing l.counts l.page.rows l.n l.c × (l.page.answer.outcome ≡ Ok tt)
