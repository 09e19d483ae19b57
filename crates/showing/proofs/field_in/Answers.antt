-- `showing::field_in` meets its contract.
use mathlib.Core.Path.{refl}
use Prim.Native.Nat.{◌-◌}
use native.Mathlib.Nat.{add-sub_cancel_left}
use Rattle.basics.proofs.StandLaws.{cut_at}
use Rattle.showing.proofs.field_in.Goals as goal

pub returns : goal.returns
returns c = (rw (add-sub_cancel_left (c.args.place.first - 1) c.args.place.length), cut_at _ _ _ _ refl)
