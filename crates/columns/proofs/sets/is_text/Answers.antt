-- `columns::sets::is_text` meets its contract: its runs of bytes and single bytes answer as the set does on all 256.
use Prim.Native.Nat.{ℕ}
use mathlib.Core.Bool.{◌&&◌, ◌||◌}
use lib.Dec.{leb, eqb}
use native.Mathlib.Omega.{arith}
use Rattle.columns.specs.Sets.{is_upper, among, is_text}
use Rattle.columns.proofs.SetLaws.{agree_below}
use Rattle.columns.proofs.sets.is_text.Goals as goal

pub returns : goal.returns
unfolding is_text among
returns c =
    rw (c.is_upper.ensures, c.is_between.ensures, c.is_between-2.ensures)
    (agree_below (λ (x : ℕ). is_upper x || (leb 97 x && leb x 122) || (leb 40 x && leb x 57) || eqb x 61 || eqb x 32) is_text 256 tt c.args.c (omega arith))
