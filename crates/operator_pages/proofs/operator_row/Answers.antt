-- `operator_pages::operator_row` meets its contract: two digits.
use mathlib.Core.Path.{◌≡◌}
use Prim.Native.Nat.{◌/◌, ◌%◌}
use Rattle.numerals.specs.Numbers.{spell_digits}
use native.Mathlib.Omega.{arith}
use Rattle.operator_pages.proofs.operator_row.Goals as goal

pub returns : goal.returns
unfolding spell_digits
returns c =
    let k = c.args.c in
    let tens : k / 10 % 10 ≡ k / 10 = omega (arith, c.requires) in
    rw tens
