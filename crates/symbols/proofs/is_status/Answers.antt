-- `symbols::is_status` meets its contract: each run of bytes, and the bytes named singly, are answered as the letters answer.
use mathlib.Core.List.{[], ◌∷◌}
use native.Mathlib.Omega.{arith}
use Rattle.columns.proofs.LetterLaws.{letter_run, letter_key}
use Rattle.symbols.proofs.is_status.Goals as goal

pub returns-in-70 : goal.returns-in-70
returns-in-70 c = letter_key _ _ (66 ∷ 70 ∷ []) tt c.in-70.is

pub returns-in_default : goal.returns-in_default
returns-in_default c = letter_run _ _ (66 ∷ 70 ∷ []) 0 256 tt (omega arith) (omega arith) c.in_default.in_default-own.rest.1
