-- What was found of a line, told in numbers.
use mathlib.Core.Path.{◌≡◌, refl}
use mathlib.Core.Bool.{cond}
use mathlib.Core.List.{List}
use Prim.Native.Nat.{ℕ}
use lib.Dec.{eqb}
use Rattle.faults.specs.Faults.{marks_of, has_marks, long_field}
use Rattle.faults.specs.declared.Marks.{Marks}
use Rattle.faults.specs.declared.LongField.{LongField}
use Rattle.desk_locating.specs.Promises.{MarksTold, LongFieldTold}

-- The marks of a line,
pub marks_told : (t : List ℕ) (m : Marks) (answer ended : ℕ) → m ≡ marks_of t → answer ≡ cond (has_marks m) 0 10 → ended ≡ cond m.ended 1 0 → MarksTold t answer m.semicolons m.feeds ended
marks_told t m answer ended e a b = rw (← e) (a, refl, refl, b)

-- and its first long field.
pub long_field_told : (t : List ℕ) (f : LongField) (answer : ℕ) → f ≡ long_field t → answer ≡ cond (eqb f.number 0) 0 11 → LongFieldTold t answer f.number f.length f.most
long_field_told t f answer e a = rw (← e) (a, refl, refl, refl)
