-- `station_rows::own_clash` meets its contract.
use borrow.Author.Tests.{eq-eqb, ne_eqb}
use Rattle.station_rows.proofs.own_clash.Goals as goal

pub returns-then-own-eq0 : goal.returns-then-own-eq0
returns-then-own-eq0 c = rw (eq-eqb _ _ c.if-own-eq0.true)

pub returns-else-own-eq0 : goal.returns-else-own-eq0
returns-else-own-eq0 c = rw (ne_eqb _ _ c.if-own-eq0.false)
