-- `distances::read_ground` meets its contract: what the columns say is in range.
use Prim.Native.Nat.{◌^◌, ◌<◌}
use mathlib.Core.Path.{◌≡◌, ap, ◌∙◌}
use native.Mathlib.Omega.{arith}
use mir.Syntax.{w64}
use mir.Facts.{to_z_pos}
use Rattle.numerals.specs.Numbers.{whole_of, amount}
use Rattle.distances.specs.Distances.{ground_of}
use Rattle.numerals.proofs.NumberLaws.{amount_small}
use Rattle.distances.proofs.read_ground.Goals as goal
use Rattle.distances.proofs.read_ground.Goals.{After-amount_of-n}

-- the number that the columns say
said : (c : After-amount_of-n) → c.amount_of-n.result ≡ amount (whole_of c.args.s.now)
said c = c.amount_of-n.ensures ∙ ap amount c.read_whole.ensures

small : (c : After-amount_of-n) → (c.amount_of-n.result ≡ amount (whole_of c.args.s.now)) → c.amount_of-n.result < 2 ^ 63
small c said = omega (arith, said, amount_small c.args.s.now)

pub overflow_cast-result : goal.overflow_cast-result
overflow_cast-result c = record { sfits = (small c (said c)) }

pub returns : goal.returns
unfolding ground_of
returns c = rw (to_z_pos w64 (small c (said c)), (said c))
