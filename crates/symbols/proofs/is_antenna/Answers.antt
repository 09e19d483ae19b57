-- `symbols::is_antenna` meets its contract: its seven places have the tests that the frame has.
use mathlib.Core.Path.{sym}
use Rattle.columns.proofs.PlaceLaws.{not-each}
use Rattle.symbols.proofs.is_antenna.Goals as goal

pub returns-then-s-ne7 : goal.returns-then-s-ne7
returns-then-s-ne7 c = sym (not-each _ _ c.if-s-ne7.true)
