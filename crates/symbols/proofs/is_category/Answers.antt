-- `symbols::is_category` meets its contract: each run of bytes, and the bytes named singly, are answered as the set answers.
use mathlib.Core.Bool.{true, false}
use mathlib.Core.List.{[]}
use native.Mathlib.Omega.{arith}
use Rattle.columns.proofs.SetLaws.{decided}
use Rattle.fields.specs.Table.{fits_at}
use Rattle.symbols.proofs.is_category.Goals as goal

pub returns-in-49-to-56 : goal.returns-in-49-to-56
returns-in-49-to-56 c = decided (fits_at 3) true [] 49 57 tt c.args.c (omega arith) (omega arith) (λ o. o)

pub returns-in_default : goal.returns-in_default
returns-in_default c = decided (fits_at 3) false [] 0 49 tt c.args.c (omega arith) (omega arith) (λ o. o)

pub returns-in_default-2 : goal.returns-in_default-2
returns-in_default-2 c = decided (fits_at 3) false [] 57 256 tt c.args.c (omega arith) (omega arith) (λ o. o)
