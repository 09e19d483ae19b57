-- `emissions::is_detail` meets its contract: each run of bytes, and the bytes named singly, are answered as the letters answer.
use mathlib.Core.List.{[]}
use native.Mathlib.Omega.{arith}
use Rattle.columns.proofs.LetterLaws.{letter_run}
use Rattle.emissions.proofs.is_detail.Goals as goal

pub returns-in-65-to-72 : goal.returns-in-65-to-72
returns-in-65-to-72 c = letter_run _ _ [] 65 73 tt (omega arith) (omega arith) (λ o. o)

pub returns-in-65-to-72-2 : goal.returns-in-65-to-72-2
returns-in-65-to-72-2 c = letter_run _ _ [] 74 79 tt (omega arith) (omega arith) (λ o. o)

pub returns-in-65-to-72-3 : goal.returns-in-65-to-72-3
returns-in-65-to-72-3 c = letter_run _ _ [] 87 89 tt (omega arith) (omega arith) (λ o. o)

pub returns-in_default : goal.returns-in_default
returns-in_default c = letter_run _ _ [] 0 65 tt (omega arith) (omega arith) (λ o. o)

pub returns-in_default-2 : goal.returns-in_default-2
returns-in_default-2 c = letter_run _ _ [] 73 74 tt (omega arith) (omega arith) (λ o. o)

pub returns-in_default-3 : goal.returns-in_default-3
returns-in_default-3 c = letter_run _ _ [] 79 87 tt (omega arith) (omega arith) (λ o. o)

pub returns-in_default-4 : goal.returns-in_default-4
returns-in_default-4 c = letter_run _ _ [] 89 256 tt (omega arith) (omega arith) (λ o. o)
