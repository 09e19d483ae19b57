-- The promise of filing a gathered line leaves one answer, and one content of the lent bytes.
use Rattle.basics.specs.Outcomes.{Outcome}
use mathlib.Core.Path.{◌≡◌, sym, ◌∙◌}
use mathlib.Core.List.{List}
use Prim.Native.Nat.{ℕ}
use Rattle.gathering.specs.declared.Gathered.{Gathered}
use Rattle.gathered_records.specs.Promises.{GatheredFiled}

-- Two answers of `file_gathered` to one line and one buffer are equal, and so is what they leave there.
pub one_gathered_filed : (buffer : List ℕ) (g : Gathered) (before : List ℕ) (a b : Outcome) (x y : List ℕ) → GatheredFiled buffer g before a x → GatheredFiled buffer g before b y → (a ≡ b) × (x ≡ y)
one_gathered_filed buffer g before a b x y p q = (p.0 ∙ sym q.0, p.1 ∙ sym q.1)
