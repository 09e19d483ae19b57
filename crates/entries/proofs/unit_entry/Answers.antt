-- `entries::unit_entry` meets its contract.
use mathlib.Core.Path.{◌∙◌}
use Rattle.entries.specs.Entries.{unit_entry}
use Rattle.entries.proofs.ByteLaws.{one_byte_lem, unit_letters}
use Rattle.entries.proofs.unit_entry.Goals as goal

pub returns : goal.returns
unfolding unit_entry
returns c = c.one_byte.ensures ∙ rw (c.all_letters_of.ensures, unit_letters _) (one_byte_lem _ _)
