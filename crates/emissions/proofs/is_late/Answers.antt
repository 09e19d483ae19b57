-- `emissions::is_late` meets its contract: each run of bytes, and the bytes named singly, are answered as the letters answer.
use mathlib.Core.List.{[], ◌∷◌}
use native.Mathlib.Omega.{arith}
use Rattle.columns.proofs.LetterLaws.{letter_run, letter_key}
use Rattle.emissions.proofs.is_late.Goals as goal

pub returns-in-48 : goal.returns-in-48
returns-in-48 c = letter_key _ _ (48 ∷ 71 ∷ 75 ∷ 77 ∷ []) tt c.in-48.is

pub returns-in_default : goal.returns-in_default
returns-in_default c = letter_run _ _ (48 ∷ 71 ∷ 75 ∷ 77 ∷ []) 0 256 tt (omega arith) (omega arith) c.in_default.in_default-own.rest.1
