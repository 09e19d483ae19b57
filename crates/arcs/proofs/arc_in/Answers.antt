-- `arcs::arc_in` meets its contract: each part is as wide as its number.
use Prim.Native.Nat.{◌+◌, ◌-◌}
use mathlib.Core.Path.{◌≡◌}
use native.Mathlib.Omega.{arith}
use Rattle.arcs.proofs.arc_in.Goals as goal

pub returns : goal.returns
returns c =
    let d = c.args.d in
    let all : d - 0 ≡ d = omega arith in
    let two : d + 3 - (d + 1) ≡ 2 = omega arith in
    let two' : d + 5 - (d + 3) ≡ 2 = omega arith in
    (rw all at c.read_whole-degrees.ensures, c.byte-letter.ensures, rw two at c.read_whole-minutes.ensures, rw two' at c.read_whole-seconds.ensures)
