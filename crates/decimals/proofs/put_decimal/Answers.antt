-- `decimals::put_decimal` meets its contract.
use mathlib.Core.Path.{sym, ap, ◌∙◌}
use mathlib.Core.Bool.{Bool, cond}
use mir.Facts.{to_z-of_z}
use Rattle.decimals.proofs.DecimalSpelling.{put_sign, put-plain}
use Rattle.decimals.proofs.put_decimal.Goals as goal

pub put_magnitude-requires : goal.put_magnitude-requires
put_magnitude-requires c = rw c.if-sign.true at c.requires

pub put_magnitude-requires-else-sign : goal.put_magnitude-requires-else-sign
put_magnitude-requires-else-sign c = rw c.if-sign.false at c.requires

pub returns-then-is_negative : goal.returns-then-is_negative
returns-then-is_negative c =
    put_sign c.args.s.now c.args.a c.args.b c.args.sign c.args.v c.magnitude-m.result c.requires (rw (to_z-of_z c.ranges.v) at c.magnitude-m.ensures) c.if-sign.true
    c.put_magnitude.new.s _ (ap (λ (n : Bool). cond n 45 32) (sym (rw (to_z-of_z c.ranges.v) at c.is_negative.ensures) ∙ c.if-is_negative.true)) c.put_magnitude.ensures

pub returns-else-is_negative : goal.returns-else-is_negative
returns-else-is_negative c =
    put_sign c.args.s.now c.args.a c.args.b c.args.sign c.args.v c.magnitude-m.result c.requires (rw (to_z-of_z c.ranges.v) at c.magnitude-m.ensures) c.if-sign.true
    c.put_magnitude.new.s _ (ap (λ (n : Bool). cond n 45 32) (sym (rw (to_z-of_z c.ranges.v) at c.is_negative.ensures) ∙ c.if-is_negative.false)) c.put_magnitude.ensures

pub returns-else-sign : goal.returns-else-sign
returns-else-sign c =
    put-plain c.args.s.now c.args.a c.args.b c.args.sign c.args.v c.magnitude-m.result c.requires (rw (to_z-of_z c.ranges.v) at c.magnitude-m.ensures) c.if-sign.false
    c.put_magnitude-else-sign.new.s c.put_magnitude-else-sign.ensures
