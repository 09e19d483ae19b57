-- `emissions::is_information` meets its contract: each run of bytes, and the bytes named singly, are answered as the letters answer.
use mathlib.Core.List.{[], ◌∷◌}
use native.Mathlib.Omega.{arith}
use Rattle.columns.proofs.LetterLaws.{letter_run, letter_key}
use Rattle.emissions.proofs.is_information.Goals as goal

pub returns-in_default : goal.returns-in_default
returns-in_default c = letter_run _ _ (78 ∷ []) 0 65 tt (omega arith) (omega arith) c.in_default.in_default-own.rest.1

pub returns-in_default-2 : goal.returns-in_default-2
returns-in_default-2 c = letter_run _ _ (78 ∷ []) 71 87 tt (omega arith) (omega arith) c.in_default.in_default-own.rest.1

pub returns-in_default-3 : goal.returns-in_default-3
returns-in_default-3 c = letter_run _ _ (78 ∷ []) 89 256 tt (omega arith) (omega arith) c.in_default.in_default-own.rest.1

pub returns-in-65-to-70 : goal.returns-in-65-to-70
returns-in-65-to-70 c = letter_key _ _ (78 ∷ []) tt c.in-65-to-70.in-65-to-70-own.keys1

pub returns-in-65-to-70-2 : goal.returns-in-65-to-70-2
returns-in-65-to-70-2 c = letter_run _ _ (78 ∷ []) 65 71 tt (omega arith) (omega arith) c.in-65-to-70.in_default-own.rest.1

pub returns-in-65-to-70-3 : goal.returns-in-65-to-70-3
returns-in-65-to-70-3 c = letter_run _ _ (78 ∷ []) 87 89 tt (omega arith) (omega arith) c.in-65-to-70.in_default-own.rest.1
