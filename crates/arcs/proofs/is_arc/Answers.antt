-- `arcs::is_arc` meets its contract: each return rewrites with the tests on its way.
use mathlib.Core.Path.{◌≡◌, sym, ◌∙◌}
use mathlib.Core.Bool.{true, false, ◌&&◌, ◌||◌}
use Prim.Native.Nat.{ℕ, ◌≤◌}
use native.Mathlib.Omega.{arith}
use lib.Dec.{leb, eqb}
use borrow.Author.Tests.{leb-true, not-true}
use Rattle.numerals.specs.Numbers.{whole_filled, amount}
use Rattle.columns.proofs.TextLaws.{and_split}
use Rattle.arcs.proofs.is_arc.Goals as goal
use Rattle.arcs.proofs.is_arc.Goals.{Else-not-is_hemisphere, Else-not-is_up_to, Else-not-is_up_to-2, Else-not-is_up_to-3}
use Rattle.std.specs.Prelude.{Option, Result}
use Rattle.numerals.specs.declared.Unread.{Unread}

-- a number that was read and passed is at most the given one
up_to : (w : Result (Option ℕ) Unread) (most : ℕ) → (whole_filled w && leb (amount w) most) ≡ true → amount w ≤ most
up_to w most e = leb-true (amount w) most (and_split (whole_filled w) (leb (amount w) most) e).1

-- the tests that were passed: degrees,
degrees_pass : (c : Else-not-is_up_to) → (whole_filled c.args.a.degrees && leb (amount c.args.a.degrees) c.args.degrees) ≡ true
degrees_pass c = sym c.is_up_to.ensures ∙ c.if-not-is_up_to.false

-- the letter,
letter_passes : (c : Else-not-is_hemisphere) → (eqb c.args.a.letter c.args.plus || (eqb c.args.a.letter c.args.minus || false)) ≡ true
letter_passes c = sym c.is_hemisphere.ensures ∙ c.if-not-is_hemisphere.false

-- minutes,
minutes_pass : (c : Else-not-is_up_to-2) → (whole_filled c.args.a.minutes && leb (amount c.args.a.minutes) 59) ≡ true
minutes_pass c = sym c.is_up_to-2.ensures ∙ c.if-not-is_up_to-2.false

-- and seconds
seconds_pass : (c : Else-not-is_up_to-3) → (whole_filled c.args.a.seconds && leb (amount c.args.a.seconds) 59) ≡ true
seconds_pass c = sym c.is_up_to-3.ensures ∙ c.if-not-is_up_to-3.false

pub returns-then-not-is_up_to : goal.returns-then-not-is_up_to
returns-then-not-is_up_to c = rw (← c.is_up_to.ensures, not-true c.is_up_to.result c.if-not-is_up_to.true-raw)

pub returns-then-not-is_hemisphere : goal.returns-then-not-is_hemisphere
returns-then-not-is_hemisphere c = rw ((degrees_pass (goal.at.returns-then-not-is_hemisphere c).Else-not-is_up_to), ← c.is_hemisphere.ensures, not-true c.is_hemisphere.result c.if-not-is_hemisphere.true-raw)

pub returns-then-not-is_up_to-2 : goal.returns-then-not-is_up_to-2
returns-then-not-is_up_to-2 c =
    rw ((degrees_pass (goal.at.returns-then-not-is_up_to-2 c).Else-not-is_up_to), (letter_passes (goal.at.returns-then-not-is_up_to-2 c).Else-not-is_hemisphere), ← c.is_up_to-2.ensures, not-true c.is_up_to-2.result c.if-not-is_up_to-2.true-raw)

pub returns-then-not-is_up_to-3 : goal.returns-then-not-is_up_to-3
returns-then-not-is_up_to-3 c =
    rw ((degrees_pass (goal.at.returns-then-not-is_up_to-3 c).Else-not-is_up_to), (letter_passes (goal.at.returns-then-not-is_up_to-3 c).Else-not-is_hemisphere), (minutes_pass (goal.at.returns-then-not-is_up_to-3 c).Else-not-is_up_to-2), ← c.is_up_to-3.ensures, not-true c.is_up_to-3.result c.if-not-is_up_to-3.true-raw)

pub seconds_in-requires : goal.seconds_in-requires
seconds_in-requires c =
    let a = c.args.a in
    omega (arith, up_to a.degrees _ (degrees_pass (goal.at.seconds_in-requires c).Else-not-is_up_to), up_to a.minutes 59 (minutes_pass (goal.at.seconds_in-requires c).Else-not-is_up_to-2), up_to a.seconds 59 (seconds_pass c))

pub returns : goal.returns
returns c =
    rw ((degrees_pass (goal.at.returns c).Else-not-is_up_to), (letter_passes (goal.at.returns c).Else-not-is_hemisphere), (minutes_pass (goal.at.returns c).Else-not-is_up_to-2), (seconds_pass (goal.at.returns c).Else-not-is_up_to-3), c.seconds_in.ensures)
