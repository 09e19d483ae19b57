-- `own_spelling::numbers::respell_position` meets its contract: it stands, or is read and written.
use mathlib.Core.Path.{sym, ap, ◌∙◌}
use Rattle.positions.specs.Positions.{spell_position}
use Rattle.own_numbers.proofs.OwnPlaces.{position_wide}
use Rattle.own_spelling.proofs.numbers.respell_position.Goals as goal

pub returns-then-is_own_position : goal.returns-then-is_own_position
returns-then-is_own_position c = sym (c.is_own_position.ensures c.if-is_own_position.true)

pub put_position-requires : goal.put_position-requires
put_position-requires c = position_wide _ c.requires

pub returns : goal.returns
returns c = c.put_position.ensures ∙ ap spell_position c.position_in-v.ensures
