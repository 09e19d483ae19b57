-- `desk_locating::desk_long_field` meets its contract.
use borrow.Author.Tests.{eq-eqb, ne_eqb}
use Rattle.desk_locating.proofs.FaultLaws.{long_field_told}
use Rattle.desk_locating.proofs.desk_long_field.Goals as goal

pub returns-then-field-eq0 : goal.returns-then-field-eq0
returns-then-field-eq0 c = long_field_told c.args.line.now _ _ c.long_field-field.ensures (rw (eq-eqb _ 0 c.if-field-eq0.true))

pub returns : goal.returns
returns c = long_field_told c.args.line.now _ _ c.long_field-field.ensures (rw (ne_eqb _ 0 c.if-field-eq0.false))
