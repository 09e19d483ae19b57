-- The promise of filing a carriage's line leaves one answer, and one content of the lent bytes.
use Rattle.basics.specs.Outcomes.{Outcome}
use mathlib.Core.Path.{◌≡◌, sym, ◌∙◌}
use mathlib.Core.List.{List}
use Prim.Native.Nat.{ℕ}
use Rattle.carriage_lines.specs.Promises.{CarriageFiled}

-- Two answers of `carriage_to_record` to one line, the same defaults and lent bytes are equal, and so is what they leave there.
pub one_carriage_filed : (t d out : List ℕ) (a b : Outcome) (x y : List ℕ) → CarriageFiled t d out a x → CarriageFiled t d out b y → (a ≡ b) × (x ≡ y)
one_carriage_filed t d out a b x y p q = (p.0 ∙ sym q.0, p.1 ∙ sym q.1)
