-- `carriage_lines::put_own` meets its contract.
use mathlib.Core.Path.{ap, ◌∙◌}
use lib.ListN.{length}
use Rattle.semicolons.specs.Fields.{padded_field}
use Rattle.carriage_lines.proofs.put_own.Goals as goal

pub put_padded-requires : goal.put_padded-requires
put_padded-requires c = rw c.field_after-field.ensures c.requires

pub returns : goal.returns
returns c =
    c.put_padded.ensures ∙ ap (padded_field c.args.side (length c.args.columns.now)) c.field_after-field.ensures
