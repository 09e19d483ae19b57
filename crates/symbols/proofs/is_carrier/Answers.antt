-- `symbols::is_carrier` meets its contract: each run of bytes, and the bytes named singly, are answered as the letters answer.
use mathlib.Core.List.{[]}
use native.Mathlib.Omega.{arith}
use Rattle.columns.proofs.LetterLaws.{letter_run}
use Rattle.symbols.proofs.is_carrier.Goals as goal

pub returns-in-48-to-49 : goal.returns-in-48-to-49
returns-in-48-to-49 c = letter_run _ _ [] 48 50 tt (omega arith) (omega arith) (λ o. o)

pub returns-in_default : goal.returns-in_default
returns-in_default c = letter_run _ _ [] 0 48 tt (omega arith) (omega arith) (λ o. o)

pub returns-in_default-2 : goal.returns-in_default-2
returns-in_default-2 c = letter_run _ _ [] 50 256 tt (omega arith) (omega arith) (λ o. o)
