-- `position_judging::is_position` meets its contract: in its one spelling it can be read, and else by the answer of the reader.
use mathlib.Core.Path.{◌≡◌, refl, sym}
use mathlib.Core.Bool.{Bool, true, false, cond}
use mathlib.Core.List.{List}
use Prim.Native.Nat.{ℕ}
use Rattle.std.specs.Prelude.{Ok, Err, is_ok}
use Rattle.flaws.specs.declared.Flaw.{Flaw}
use Rattle.positions.specs.declared.Position.{Position}
use Rattle.positions.specs.Positions.{position_good, position_of, unread_position, located_of}
use Rattle.position_judging.proofs.is_position.Goals as goal

-- a position is read exactly where it keeps its rule
found_good : (p : List ℕ) → is_ok (located_of p) ≡ position_good p
unfolding located_of
found_good p = by (position_good p) (position_of p) (unread_position p) where
  by : (b : Bool) (v : Position) (wrong : Flaw) → is_ok (cond b (Ok v) (Err wrong)) ≡ b
  by true v wrong = refl
  by false v wrong = refl

pub returns-then-is_plain : goal.returns-then-is_plain
returns-then-is_plain c = sym (c.is_plain.ensures c.if-is_plain.true)

pub returns : goal.returns
returns c = rw (c.is_ok.ensures.value, c.read_position.ensures) (found_good _)
