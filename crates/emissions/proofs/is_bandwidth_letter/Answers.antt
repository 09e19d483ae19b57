-- `emissions::is_bandwidth_letter` meets its contract: each run of bytes, and the bytes named singly, are answered as the letters answer.
use mathlib.Core.List.{[], ◌∷◌}
use native.Mathlib.Omega.{arith}
use Rattle.columns.proofs.LetterLaws.{letter_run, letter_key}
use Rattle.emissions.proofs.is_bandwidth_letter.Goals as goal

pub returns-in_default : goal.returns-in_default
returns-in_default c = letter_run _ _ (75 ∷ 77 ∷ []) 0 71 tt (omega arith) (omega arith) c.in_default.in_default-own.rest.1

pub returns-in_default-2 : goal.returns-in_default-2
returns-in_default-2 c = letter_run _ _ (75 ∷ 77 ∷ []) 73 256 tt (omega arith) (omega arith) c.in_default.in_default-own.rest.1

pub returns-in-71-to-72 : goal.returns-in-71-to-72
returns-in-71-to-72 c = letter_key _ _ (75 ∷ 77 ∷ []) tt c.in-71-to-72.in-71-to-72-own.keys1

pub returns-in-71-to-72-2 : goal.returns-in-71-to-72-2
returns-in-71-to-72-2 c = letter_run _ _ (75 ∷ 77 ∷ []) 71 73 tt (omega arith) (omega arith) c.in-71-to-72.in_default-own.rest.1
