-- `number_flaws::unit_flaw` meets its contract.
use mathlib.Core.Path.{sym, ◌∙◌}
use Rattle.columns.specs.Sets.{among}
use Rattle.columns.specs.Texts.{bytes}
use Rattle.flaws.specs.Flaws.{letter_of}
use Rattle.flaws.proofs.SetsAlike.{among-letters, every-alike}
use Rattle.number_flaws.proofs.AnswerLaws.{unit_letters, unit_kept, unit_odd, unit_strange, unit_unread}
use Rattle.number_flaws.proofs.unit_flaw.Goals as goal

pub returns-then-is_unit : goal.returns-then-is_unit
returns-then-is_unit c = unit_kept _ _ (sym c.is_unit.ensures ∙ c.if-is_unit.true)

pub returns-then-q-ne1 : goal.returns-then-q-ne1
returns-then-q-ne1 c = c.unread_of.ensures ∙ unit_letters _ ∙ unit_unread _ _ c.if-q-ne1.true

pub returns-then-all_letters_of : goal.returns-then-all_letters_of
returns-then-all_letters_of c = unit_odd _ _ c.if-q-ne1.false (sym c.is_unit.ensures ∙ c.if-is_unit.false) (every-alike (among "kMG ") (letter_of (bytes "kMG ")) (among-letters "kMG ") _ ∙ sym c.all_letters_of.ensures ∙ c.if-all_letters_of.true)

pub returns-else-all_letters_of : goal.returns-else-all_letters_of
returns-else-all_letters_of c = unit_strange _ _ (every-alike (among "kMG ") (letter_of (bytes "kMG ")) (among-letters "kMG ") _ ∙ sym c.all_letters_of.ensures ∙ c.if-all_letters_of.false)
