-- What the calls on a refused line promise.
use Rattle.std.specs.Prelude.{ℕ, ◌≡◌, List}
use Rattle.faults.specs.Faults.{marks_of, long_field}
use Rattle.faults.specs.declared.Marks.{Marks}
use Rattle.faults.specs.declared.LongField.{LongField}

-- `line_marks` of a text.
abbrev pub LineMarked : List ℕ → Marks → Type 0
LineMarked t answer = answer ≡ marks_of t

-- `long_field` of a text.
abbrev pub LongFieldFound : List ℕ → LongField → Type 0
LongFieldFound t answer = answer ≡ long_field t
