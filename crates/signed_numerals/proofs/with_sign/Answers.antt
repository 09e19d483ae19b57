-- `signed_numerals::with_sign` meets its contract.
use mir.Syntax.{w64}
use mir.Facts.{to_z_pos, to_z-of_z}
use lib.IntN.{pos, +ℤ_idl}
use Rattle.numerals.proofs.Signs.{neg_fits}
use native.Mathlib.Omega.{arith}
use Rattle.signed_numerals.proofs.with_sign.Goals as goal

pub overflow_sub-result : goal.overflow_sub-result
overflow_sub-result c = rw (to_z_pos w64 {n = c.args.v} (omega arith), +ℤ_idl) (neg_fits (pos c.args.v) (omega arith))

pub returns-then-minus : goal.returns-then-minus
returns-then-minus c = rw (to_z_pos w64 {n = c.args.v} (omega arith), +ℤ_idl, c.if-minus.true) (to_z-of_z (neg_fits (pos c.args.v) (omega arith)))

pub returns-else-minus : goal.returns-else-minus
returns-else-minus c = rw c.if-minus.false (to_z_pos w64 (omega arith))
