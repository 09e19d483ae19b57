-- `remarks::is_surrounding` meets its contract: each run of bytes, and the bytes named singly, are answered as the letters answer.
use mathlib.Core.List.{[], ◌∷◌}
use native.Mathlib.Omega.{arith}
use Rattle.columns.proofs.LetterLaws.{letter_run, letter_key}
use Rattle.remarks.proofs.is_surrounding.Goals as goal

pub returns-in-73 : goal.returns-in-73
returns-in-73 c = letter_key _ _ (73 ∷ 79 ∷ []) tt c.in-73.is

pub returns-in_default : goal.returns-in_default
returns-in_default c = letter_run _ _ (73 ∷ 79 ∷ []) 0 256 tt (omega arith) (omega arith) c.in_default.in_default-own.rest.1
