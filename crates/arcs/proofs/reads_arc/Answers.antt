-- `arcs::reads_arc` meets its contract: each return rewrites with the tests on its way.
use mathlib.Core.Path.{◌≡◌, sym, ◌∙◌}
use mathlib.Core.Bool.{true, false, ◌||◌}
use lib.Dec.{eqb}
use borrow.Author.Tests.{not-true}
use Rattle.numerals.specs.Numbers.{whole_filled}
use Rattle.arcs.proofs.reads_arc.Goals as goal
use Rattle.arcs.proofs.reads_arc.Goals.{Else-not-is_hemisphere, Else-not-says_number, Else-not-says_number-2}

-- the tests that were passed: degrees,
degrees_pass : (c : Else-not-says_number) → whole_filled c.args.a.degrees ≡ true
degrees_pass c = sym c.says_number.ensures ∙ c.if-not-says_number.false

-- the letter,
letter_passes : (c : Else-not-is_hemisphere) → (eqb c.args.a.letter c.args.plus || (eqb c.args.a.letter c.args.minus || false)) ≡ true
letter_passes c = sym c.is_hemisphere.ensures ∙ c.if-not-is_hemisphere.false

-- and minutes
minutes_pass : (c : Else-not-says_number-2) → whole_filled c.args.a.minutes ≡ true
minutes_pass c = sym c.says_number-2.ensures ∙ c.if-not-says_number-2.false

pub returns-then-not-says_number : goal.returns-then-not-says_number
returns-then-not-says_number c = rw (← c.says_number.ensures, not-true c.says_number.result c.if-not-says_number.true-raw)

pub returns-then-not-is_hemisphere : goal.returns-then-not-is_hemisphere
returns-then-not-is_hemisphere c = rw ((degrees_pass (goal.at.returns-then-not-is_hemisphere c).Else-not-says_number), ← c.is_hemisphere.ensures, not-true c.is_hemisphere.result c.if-not-is_hemisphere.true-raw)

pub returns-then-not-says_number-2 : goal.returns-then-not-says_number-2
returns-then-not-says_number-2 c = rw ((degrees_pass (goal.at.returns-then-not-says_number-2 c).Else-not-says_number), (letter_passes (goal.at.returns-then-not-says_number-2 c).Else-not-is_hemisphere), ← c.says_number-2.ensures, not-true c.says_number-2.result c.if-not-says_number-2.true-raw)

pub returns : goal.returns
returns c = rw ((degrees_pass (goal.at.returns c).Else-not-says_number), (letter_passes (goal.at.returns c).Else-not-is_hemisphere), (minutes_pass (goal.at.returns c).Else-not-says_number-2)) c.says_number-3.ensures
