-- `own_spelling::numbers::respell_whole` meets its contract: it stands, or is read and written.
use mathlib.Core.Path.{sym, ap, ◌∙◌}
use Rattle.numerals.specs.Numbers.{spell_whole}
use Rattle.own_numbers.proofs.OwnLaws.{whole-own}
use Rattle.own_spelling.proofs.numbers.respell_whole.Goals as goal

pub returns-then-all_in : goal.returns-then-all_in
returns-then-all_in c = sym (whole-own _ c.requires.0 c.requires.1 (sym c.all_in.ensures ∙ c.if-all_in.true))

pub returns : goal.returns
returns c = c.put_whole.ensures ∙ ap (spell_whole _) c.amount_in-v.ensures
