-- `signed_numerals::has_minus` meets its contract.
use Rattle.signed_numerals.proofs.has_minus.Goals as goal

pub returns-then-sign : goal.returns-then-sign
returns-then-sign c = rw (c.if-sign.true, ← c.byte.ensures)
