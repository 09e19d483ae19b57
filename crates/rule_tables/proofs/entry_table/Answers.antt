-- `rule_tables::entry_table` meets its contract: that the entries are those of specs/ is one computed test.
use mathlib.Core.Path.{refl}
use Rattle.columns.specs.Sets.{among}
use Rattle.flaws.specs.Flaws.{letter_of}
use Rattle.spans.specs.Numbers.{decimal_entry, height_entry, whole_entry}
use Rattle.entries.specs.Entries.{between_entry, either_entry, kind_flaw, entry_flaw}
use Rattle.station.specs.Places.{fields_of}
use Rattle.walking.specs.Walks.{flaw_behind}
use Rattle.rule_tables.specs.Told.{EntriesTell}
use Rattle.rule_tables.proofs.entry_table.Goals as goal

pub returns : goal.returns
unfolding EntriesTell flaw_behind entry_flaw kind_flaw decimal_entry height_entry whole_entry between_entry either_entry letter_of among fields_of
returns c = (refl, λ r rows. refl)
