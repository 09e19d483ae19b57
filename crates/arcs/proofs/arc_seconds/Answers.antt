-- `arcs::arc_seconds` meets its contract: the sign is told by the letter.
use mathlib.Core.Path.{◌∙◌}
use Rattle.numerals.proofs.Signs.{in_bits}
use Rattle.arcs.proofs.arc_seconds.Goals as goal

pub returns : goal.returns
returns c = rw (in_bits c.signed_seconds.result c.signed_seconds.type_inv) (c.signed_seconds.ensures ∙ rw c.seconds_in.ensures)
