-- `frequencies::is_letter` meets its contract: the letters are named singly.
use mathlib.Core.Bool.{true, false}
use mathlib.Core.List.{[], ◌∷◌}
use Rattle.columns.specs.Sets.{among}
use Rattle.columns.proofs.SetLaws.{decided, keyed}
use native.Mathlib.Omega.{arith}
use Rattle.frequencies.proofs.is_letter.Goals as goal

pub returns-in-107 : goal.returns-in-107
unfolding among
returns-in-107 c = keyed (among "kMG") true (71 ∷ 77 ∷ 107 ∷ []) tt c.args.c c.in-107.is

pub returns-in_default : goal.returns-in_default
unfolding among
returns-in_default c = decided (among "kMG") false (71 ∷ 77 ∷ 107 ∷ []) 0 256 tt c.args.c (omega arith) (omega arith) c.in_default.in_default-own.rest.1
