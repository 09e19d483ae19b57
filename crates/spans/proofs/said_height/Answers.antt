-- `spans::said_height` meets its contract.
use Rattle.numerals.proofs.Signs.{in_bits}
use Rattle.spans.proofs.said_height.Goals as goal

pub returns-in-Some : goal.returns-in-Some
returns-in-Some c = rw (c.range_flaw.ensures, c.in_span.ensures, in_bits c.in-Some.m.0 c.struct_told-1.given.0.1, c.in-Some.is)
