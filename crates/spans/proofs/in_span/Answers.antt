-- `spans::in_span` meets its contract.
use mathlib.Core.Path.{◌≡◌, sym, ap, ◌∙◌}
use mathlib.Core.Bool.{Bool, cond}
use native.Mathlib.Omega.{arith}
use lib.Dec.{leb}
use lib.IntN.{nat_abs}
use mir.Facts.{to_z-of_z}
use borrow.Author.Tests.{not-true, not-false}
use Rattle.spans.specs.Spans.{span}
use Rattle.spans.proofs.SpanLaws.{either_side_lem}
use Rattle.spans.proofs.in_span.Goals as goal
use Rattle.spans.proofs.in_span.Goals.{After-is_negative, After-magnitude-n}

-- the magnitude is the number's own
measured : (c : After-magnitude-n) → c.magnitude-n.result ≡ nat_abs c.args.v
measured c = c.magnitude-n.ensures ∙ ap nat_abs (to_z-of_z c.ranges.v)

-- a number with a sign has the bound of its side
signed : (c : After-is_negative) → (c.magnitude-n.result ≡ nat_abs c.args.v) → leb c.magnitude-n.result (cond c.is_negative.result c.args.low c.args.high) ≡ span c.args.sign c.args.low c.args.high c.args.v
signed c measured =
    rw (not-false c.args.sign c.if-not-sign.false-raw, c.is_negative.ensures, to_z-of_z c.ranges.v, measured)
    (either_side_lem c.args.low c.args.high c.args.v (omega (arith, measured, c.magnitude-n.type_inv)))

pub returns-then-not-sign : goal.returns-then-not-sign
returns-then-not-sign c =
    c.is_from_to.ensures ∙ rw (not-true c.args.sign c.if-not-sign.true-raw, (measured (goal.at.returns-then-not-sign c).After-magnitude-n))

pub returns-then-is_negative : goal.returns-then-is_negative
returns-then-is_negative c = ap (λ (b : Bool). leb c.magnitude-n.result (cond b c.args.low c.args.high)) (sym c.if-is_negative.true) ∙ (signed (goal.at.returns-then-is_negative c).After-is_negative (measured (goal.at.returns-then-is_negative c).After-magnitude-n))

pub returns : goal.returns
returns c = ap (λ (b : Bool). leb c.magnitude-n.result (cond b c.args.low c.args.high)) (sym c.if-is_negative.false) ∙ (signed (goal.at.returns c).After-is_negative (measured (goal.at.returns c).After-magnitude-n))
