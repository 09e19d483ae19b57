-- `decimals::put_magnitude` meets its contract.
use mathlib.Core.Path.{◌∙◌}
use native.Mathlib.Omega.{arith}
use lib.ListN.{length-set}
use Rattle.decimals.proofs.DecimalSpelling.{put-parts}
use Rattle.decimals.proofs.put_magnitude.Goals as goal

pub put_digits-requires : goal.put_digits-requires
put_digits-requires c = simp length-set (omega arith)

pub shape_of-s : goal.shape_of-s
shape_of-s c = c.put_digits.auto.s ∙ simp length-set c.put_digits-high.auto.s

pub returns : goal.returns
returns c =
    put-parts c.args.s.now c.put_digits-high.new.s _ c.args.o c.args.a c.args.b c.args.v c.put_digits-high.result c.requires
    c.put_digits-high.ensures.0 c.put_digits-high.ensures.1 c.put_digits.ensures.1
