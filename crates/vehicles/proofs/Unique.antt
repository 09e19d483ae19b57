-- The promises of the calls on vehicle numbers leave one answer.
use Rattle.basics.specs.Outcomes.{Outcome}
use mathlib.Core.Path.{◌≡◌, sym, ◌∙◌}
use mathlib.Core.List.{List}
use Prim.Native.Nat.{ℕ}
use denote.Ref.{Bor}
use Rattle.vehicles.specs.Promises.{NumberChecked, NumberFound}

-- Two answers of `check_number` to one text are equal,
pub one_check : (t : List ℕ) (a b : Outcome) → NumberChecked t a → NumberChecked t b → a ≡ b
one_check t a b p q = p ∙ sym q

-- and of `number_in` to one name: the same bytes at the same place.
pub one_number : (name a b : Bor (List ℕ)) → NumberFound name a → NumberFound name b → (a.ref_ptr ≡ b.ref_ptr) × (a.now ≡ b.now)
one_number name a b p q = (p.1 ∙ sym q.1, p.0 ∙ sym q.0)
