-- `wording::name_of` meets its contract: the names are those of the table.
use mathlib.Core.Path.{sym, ◌∙◌}
use Prim.Native.Nat.{◌-◌}
use native.Mathlib.Omega.{arith}
use Rattle.fields.specs.Table.{station_table}
use Rattle.wording.proofs.NameLaws.{name_behind, name_is}
use Rattle.wording.proofs.name_of.Goals as goal

pub returns : goal.returns
returns c =
    let k = c.args.k in
    let so = name_behind c.args.names.now _ station_table c.requires.named (k - 1) (omega arith) in
    record { value = so.0 ∙ sym (name_is k (λ z. absurd (omega arith))); upper_bound = so.1 }
