-- The promises of the calls on a refused line leave one answer.
use mathlib.Core.Path.{◌≡◌, sym, ◌∙◌}
use mathlib.Core.Bool.{Bool}
use mathlib.Core.List.{List}
use Prim.Native.Nat.{ℕ}
use Rattle.faults.specs.Faults.{has_marks}
use Rattle.faults.specs.Promises.{LineMarked, LongFieldFound}
use Rattle.faults.specs.declared.Marks.{Marks}
use Rattle.faults.specs.declared.LongField.{LongField}

-- Two answers of `line_marks` to one text are equal,
pub one_marking : (t : List ℕ) (a b : Marks) → LineMarked t a → LineMarked t b → a ≡ b
one_marking t a b p q = p ∙ sym q

-- those of `has_marks` to the same marks,
pub one_test : (m : Marks) (a b : Bool) → a ≡ has_marks m → b ≡ has_marks m → a ≡ b
one_test m a b p q = p ∙ sym q

-- and those of `long_field` to one text.
pub one_long_field : (t : List ℕ) (a b : LongField) → LongFieldFound t a → LongFieldFound t b → a ≡ b
one_long_field t a b p q = p ∙ sym q
