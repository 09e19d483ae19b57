-- `walking::parts::behind` meets its contract.
use Prim.Native.Nat.{◌-◌}
use mathlib.Core.Path.{sym}
use native.Mathlib.Omega.{arith}
use lib.ListN.{length, drop, drop_of_length-le, length-drop}
use lib.Seq.{take_all}
use Rattle.walking.proofs.parts.behind.Goals as goal

pub returns-then-rec-a : goal.returns-then-rec-a
returns-then-rec-a c = sym (drop_of_length-le c.args.rec.now {i = c.args.a} (omega (arith, c.if-rec-a.true)))

pub returns : goal.returns
returns c = take_all (length c.args.rec.now - c.args.a) (drop c.args.a c.args.rec.now) (omega (arith, length-drop c.args.a c.args.rec.now))
