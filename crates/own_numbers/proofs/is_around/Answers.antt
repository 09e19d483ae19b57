-- `own_numbers::is_around` meets its contract: each return rewrites with the tests on its way.
use Rattle.columns.proofs.TextLaws.{from_on}
use Rattle.columns.specs.Texts.{every}
use Rattle.columns.specs.Sets.{is_digit}
use lib.Seq.{length-take-le}
use Prim.Native.Nat.{◌+◌}
use mathlib.Core.Path.{sym, ap, ◌∙◌}
use borrow.Author.Tests.{eq-eqb, ne_eqb, not-true, not-false}
use Rattle.own_numbers.specs.OwnNumbers.{digits_around}
use native.Mathlib.Omega.{arith}
use Rattle.own_numbers.proofs.is_around.Goals as goal

pub returns-then-t-a : goal.returns-then-t-a
unfolding digits_around
returns-then-t-a c = rw (ne_eqb _ _ c.if-t-a.true)

pub slice_bounds-all_in-end : goal.slice_bounds-all_in-end
slice_bounds-all_in-end c = sym (length-take-le _ _ (omega (arith, c.requires)))

pub returns-then-not-all_in : goal.returns-then-not-all_in
unfolding digits_around
returns-then-not-all_in c = rw (eq-eqb _ _ c.if-t-a.false, ← c.all_in.ensures, not-true c.all_in.result c.if-not-all_in.true-raw)

pub returns : goal.returns
unfolding digits_around
returns c =
    rw (eq-eqb _ _ c.if-t-a.false, ← c.all_in.ensures, not-false c.all_in.result c.if-not-all_in.false-raw) (c.all_in-2.ensures ∙ ap (every is_digit) (from_on c.args.t.now (c.args.a + 1)))
