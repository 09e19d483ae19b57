-- `frequencies::is_unit` meets its contract: one column, and in it a space or a letter.
use mathlib.Core.Path.{sym, ◌∙◌}
use Rattle.frequencies.proofs.FrequencyLaws.{unit_short, unit_blank, unit_filled}
use Rattle.frequencies.proofs.is_unit.Goals as goal

pub returns-then-q-ne1 : goal.returns-then-q-ne1
returns-then-q-ne1 c = unit_short _ _ c.if-q-ne1.true

pub returns-then-is_blank : goal.returns-then-is_blank
returns-then-is_blank c = unit_blank _ _ c.if-q-ne1.false (sym c.is_blank.ensures ∙ c.if-is_blank.true)

pub returns : goal.returns
returns c =
    c.is_letter.ensures ∙ unit_filled _ _ c.if-q-ne1.false (sym c.is_blank.ensures ∙ c.if-is_blank.false)
