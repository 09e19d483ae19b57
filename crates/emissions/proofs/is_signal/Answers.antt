-- `emissions::is_signal` meets its contract: each run of bytes, and the bytes named singly, are answered as the letters answer.
use mathlib.Core.List.{[], ◌∷◌}
use native.Mathlib.Omega.{arith}
use Rattle.columns.proofs.LetterLaws.{letter_run, letter_key}
use Rattle.emissions.proofs.is_signal.Goals as goal

pub returns-in_default : goal.returns-in_default
returns-in_default c = letter_run _ _ (88 ∷ []) 0 48 tt (omega arith) (omega arith) c.in_default.in_default-own.rest.1

pub returns-in_default-2 : goal.returns-in_default-2
returns-in_default-2 c = letter_run _ _ (88 ∷ []) 52 55 tt (omega arith) (omega arith) c.in_default.in_default-own.rest.1

pub returns-in_default-3 : goal.returns-in_default-3
returns-in_default-3 c = letter_run _ _ (88 ∷ []) 58 256 tt (omega arith) (omega arith) c.in_default.in_default-own.rest.1

pub returns-in-48-to-51 : goal.returns-in-48-to-51
returns-in-48-to-51 c = letter_key _ _ (88 ∷ []) tt c.in-48-to-51.in-48-to-51-own.keys1

pub returns-in-48-to-51-2 : goal.returns-in-48-to-51-2
returns-in-48-to-51-2 c = letter_run _ _ (88 ∷ []) 48 52 tt (omega arith) (omega arith) c.in-48-to-51.in_default-own.rest.1

pub returns-in-48-to-51-3 : goal.returns-in-48-to-51-3
returns-in-48-to-51-3 c = letter_run _ _ (88 ∷ []) 55 58 tt (omega arith) (omega arith) c.in-48-to-51.in_default-own.rest.1
