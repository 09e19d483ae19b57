-- `own_spelling::numbers::respell_decimal` meets its contract: it stands, or is read and written.
use mathlib.Core.Path.{sym, ap, ◌∙◌}
use Rattle.formats.specs.Tenths.{spell_tenths}
use Rattle.own_spelling.proofs.numbers.respell_decimal.Goals as goal

pub returns-then-is_own_decimal : goal.returns-then-is_own_decimal
returns-then-is_own_decimal c = sym (c.is_own_decimal.ensures c.if-is_own_decimal.true)

pub returns : goal.returns
returns c = c.put_tenths.ensures ∙ ap (spell_tenths _ _ _) c.read_tenths-v.ensures
