-- `spans::said_tenths` meets its contract.
use Rattle.numerals.proofs.Signs.{in_bits}
use Rattle.spans.proofs.said_tenths.Goals as goal

pub returns-in-Some : goal.returns-in-Some
returns-in-Some c = rw (c.range_flaw.ensures, c.in_span.ensures, in_bits _ c.in-Some.known_told-1-own.given.0.1, c.in-Some.is)
