-- `spans::is_from_to` meets its contract.
use mathlib.Core.Path.{sym, ◌∙◌}
use native.Mathlib.Omega.{arith}
use borrow.Author.Tests.{le-leb, lt-leb}
use Rattle.spans.proofs.SpanLaws.{from_to_lem}
use Rattle.spans.proofs.is_from_to.Goals as goal

pub returns-then-n-low : goal.returns-then-n-low
returns-then-n-low c = sym (sym (from_to_lem c.args.low c.args.high c.args.n (omega (arith, c.ranges.n))) ∙ rw (lt-leb c.args.low c.args.n c.if-n-low.true))

pub returns : goal.returns
returns c = sym (sym (from_to_lem c.args.low c.args.high c.args.n (omega (arith, c.ranges.n))) ∙ rw (le-leb c.args.low c.args.n c.if-n-low.false))
