-- `columns::texts::is_blank` meets its contract: blank is a test on every byte, and what was found so far holds of the bytes that were passed.
use mathlib.Core.Path.{◌≡◌}
use mathlib.Core.Bool.{◌&&◌}
use lib.Dec.{eqb}
use lib.ListN.{drop}
use Rattle.columns.specs.Texts.{every}
use Rattle.columns.proofs.texts.is_blank.Given as goal

abbrev pub invariant-loop-c : goal.invariant-loop-c
invariant-loop-c l = every (λ x. eqb x 32) l.s ≡ (l.all && every (λ x. eqb x 32) (drop l.c-index l.s))
