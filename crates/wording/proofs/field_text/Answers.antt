-- `wording::field_text` meets its contract: the names are those of the table, by one computed test.
use mathlib.Core.Path.{refl, sym, ap}
use Rattle.columns.specs.Texts.{same}
use Rattle.wording.specs.Words.{name_at}
use Rattle.wording.proofs.NameLaws.{no_name}
use Rattle.wording.proofs.field_text.Goals as goal

pub returns-then-k-eq0-clause-value : goal.returns-then-k-eq0-clause-value
unfolding name_at
returns-then-k-eq0-clause-value c = sym (ap name_at c.if-k-eq0.true)

pub returns-then-k-gt30-clause-value : goal.returns-then-k-gt30-clause-value
returns-then-k-gt30-clause-value c = sym (no_name _ c.if-k-gt30.true)

pub name_of-requires-clause-named : goal.name_of-requires-clause-named
unfolding same
name_of-requires-clause-named c = refl
