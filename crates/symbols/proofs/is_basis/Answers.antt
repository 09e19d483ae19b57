-- `symbols::is_basis` meets its contract: each run of bytes, and the bytes named singly, are answered as the letters answer.
use mathlib.Core.List.{[], ◌∷◌}
use native.Mathlib.Omega.{arith}
use Rattle.columns.proofs.LetterLaws.{letter_run, letter_key}
use Rattle.symbols.proofs.is_basis.Goals as goal

pub returns-in-69 : goal.returns-in-69
returns-in-69 c = letter_key _ _ (69 ∷ 73 ∷ []) tt c.in-69.is

pub returns-in_default : goal.returns-in_default
returns-in_default c = letter_run _ _ (69 ∷ 73 ∷ []) 0 256 tt (omega arith) (omega arith) c.in_default.in_default-own.rest.1
