-- `walking::parts::front` meets its contract.
use Prim.Native.Nat.{ℕ, ◌-◌}
use mathlib.Core.Path.{◌≡◌, sym, ap}
use native.Mathlib.Omega.{arith}
use lib.ListN.{take}
use lib.Seq.{take_all}
use Rattle.walking.proofs.parts.front.Goals as goal

pub returns-then-rec-n : goal.returns-then-rec-n
returns-then-rec-n c = sym (take_all c.args.n c.args.rec.now (omega (arith, c.if-rec-n.true)))

pub returns : goal.returns
returns c = let e : c.args.n - 0 ≡ c.args.n = omega arith in ap (λ (n : ℕ). take n c.args.rec.now) e
