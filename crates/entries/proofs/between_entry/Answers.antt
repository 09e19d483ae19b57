-- `entries::between_entry` meets its contract.
use mathlib.Core.Path.{◌∙◌}
use Rattle.entries.specs.Entries.{between_entry}
use Rattle.entries.proofs.ByteLaws.{one_byte_lem}
use Rattle.entries.proofs.between_entry.Goals as goal

pub returns : goal.returns
unfolding between_entry
returns c = c.one_byte.ensures ∙ rw c.all_between.ensures (one_byte_lem _ _)
