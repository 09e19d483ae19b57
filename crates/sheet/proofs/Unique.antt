-- The promise of judging leaves one answer and one content of the lent bytes.
use Rattle.basics.specs.Outcomes.{Outcome}
use mathlib.Core.Path.{◌≡◌, sym, ◌∙◌}
use mathlib.Core.List.{List}
use Prim.Native.Nat.{ℕ}
use Rattle.sheet.specs.Promises.{SheetJudged}

-- Two answers of `judge` to one file and one sheet are equal, and so are the sheets that they leave.
pub one_judging : (file sheet : List ℕ) (a b : Outcome) (x y : List ℕ) → SheetJudged file sheet a x → SheetJudged file sheet b y → (a ≡ b) × (x ≡ y)
one_judging file sheet a b x y p q = (p.0 ∙ sym q.0, p.1 ∙ sym q.1)
