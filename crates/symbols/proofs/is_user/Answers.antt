-- `symbols::is_user` meets its contract: each run of bytes, and the bytes named singly, are answered as the set answers.
use mathlib.Core.Bool.{true, false}
use mathlib.Core.List.{[]}
use native.Mathlib.Omega.{arith}
use Rattle.columns.proofs.SetLaws.{decided}
use Rattle.fields.specs.Table.{is_user}
use Rattle.symbols.proofs.is_user.Goals as goal

pub returns-in-65-to-73 : goal.returns-in-65-to-73
returns-in-65-to-73 c = decided is_user true [] 65 74 tt c.args.c (omega arith) (omega arith) (λ o. o)

pub returns-in-65-to-73-2 : goal.returns-in-65-to-73-2
returns-in-65-to-73-2 c = decided is_user true [] 75 91 tt c.args.c (omega arith) (omega arith) (λ o. o)

pub returns-in_default : goal.returns-in_default
returns-in_default c = decided is_user false [] 0 65 tt c.args.c (omega arith) (omega arith) (λ o. o)

pub returns-in_default-2 : goal.returns-in_default-2
returns-in_default-2 c = decided is_user false [] 74 75 tt c.args.c (omega arith) (omega arith) (λ o. o)

pub returns-in_default-3 : goal.returns-in_default-3
returns-in_default-3 c = decided is_user false [] 91 256 tt c.args.c (omega arith) (omega arith) (λ o. o)
