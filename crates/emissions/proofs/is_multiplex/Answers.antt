-- `emissions::is_multiplex` meets its contract: each run of bytes, and the bytes named singly, are answered as the letters answer.
use mathlib.Core.List.{[], ◌∷◌}
use native.Mathlib.Omega.{arith}
use Rattle.columns.proofs.LetterLaws.{letter_run, letter_key}
use Rattle.emissions.proofs.is_multiplex.Goals as goal

pub returns-in_default : goal.returns-in_default
returns-in_default c = letter_run _ _ (67 ∷ 70 ∷ 78 ∷ 84 ∷ []) 0 87 tt (omega arith) (omega arith) c.in_default.in_default-own.rest.1

pub returns-in_default-2 : goal.returns-in_default-2
returns-in_default-2 c = letter_run _ _ (67 ∷ 70 ∷ 78 ∷ 84 ∷ []) 89 256 tt (omega arith) (omega arith) c.in_default.in_default-own.rest.1

pub returns-in-67 : goal.returns-in-67
returns-in-67 c = letter_key _ _ (67 ∷ 70 ∷ 78 ∷ 84 ∷ []) tt c.in-67.in-67-own.keys1

pub returns-in-67-2 : goal.returns-in-67-2
returns-in-67-2 c = letter_run _ _ (67 ∷ 70 ∷ 78 ∷ 84 ∷ []) 87 89 tt (omega arith) (omega arith) c.in-67.in_default-own.rest.1
