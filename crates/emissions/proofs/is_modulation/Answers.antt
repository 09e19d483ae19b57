-- `emissions::is_modulation` meets its contract: each run of bytes, and the bytes named singly, are answered as the letters answer.
use mathlib.Core.List.{[]}
use native.Mathlib.Omega.{arith}
use Rattle.columns.proofs.LetterLaws.{letter_run}
use Rattle.emissions.proofs.is_modulation.Goals as goal

pub returns-in-65-to-68 : goal.returns-in-65-to-68
returns-in-65-to-68 c = letter_run _ _ [] 65 69 tt (omega arith) (omega arith) (λ o. o)

pub returns-in-65-to-68-2 : goal.returns-in-65-to-68-2
returns-in-65-to-68-2 c = letter_run _ _ [] 70 73 tt (omega arith) (omega arith) (λ o. o)

pub returns-in-65-to-68-3 : goal.returns-in-65-to-68-3
returns-in-65-to-68-3 c = letter_run _ _ [] 74 79 tt (omega arith) (omega arith) (λ o. o)

pub returns-in-65-to-68-4 : goal.returns-in-65-to-68-4
returns-in-65-to-68-4 c = letter_run _ _ [] 80 83 tt (omega arith) (omega arith) (λ o. o)

pub returns-in-65-to-68-5 : goal.returns-in-65-to-68-5
returns-in-65-to-68-5 c = letter_run _ _ [] 86 89 tt (omega arith) (omega arith) (λ o. o)

pub returns-in_default : goal.returns-in_default
returns-in_default c = letter_run _ _ [] 0 65 tt (omega arith) (omega arith) (λ o. o)

pub returns-in_default-2 : goal.returns-in_default-2
returns-in_default-2 c = letter_run _ _ [] 69 70 tt (omega arith) (omega arith) (λ o. o)

pub returns-in_default-3 : goal.returns-in_default-3
returns-in_default-3 c = letter_run _ _ [] 73 74 tt (omega arith) (omega arith) (λ o. o)

pub returns-in_default-4 : goal.returns-in_default-4
returns-in_default-4 c = letter_run _ _ [] 79 80 tt (omega arith) (omega arith) (λ o. o)

pub returns-in_default-5 : goal.returns-in_default-5
returns-in_default-5 c = letter_run _ _ [] 83 86 tt (omega arith) (omega arith) (λ o. o)

pub returns-in_default-6 : goal.returns-in_default-6
returns-in_default-6 c = letter_run _ _ [] 89 256 tt (omega arith) (omega arith) (λ o. o)
