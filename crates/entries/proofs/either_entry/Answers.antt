-- `entries::either_entry` meets its contract.
use mathlib.Core.Path.{◌∙◌}
use Rattle.entries.specs.Entries.{either_entry}
use Rattle.entries.proofs.ByteLaws.{one_byte_lem}
use Rattle.entries.proofs.either_entry.Goals as goal

pub returns : goal.returns
unfolding either_entry
returns c = c.one_byte.ensures ∙ rw c.all_letters_of.ensures (one_byte_lem _ _)
