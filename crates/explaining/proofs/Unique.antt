-- The promise of an explanation leaves one answer and one content of the lent bytes.
use mathlib.Core.Path.{◌≡◌, sym, ◌∙◌}
use mathlib.Core.List.{List}
use Prim.Native.Nat.{ℕ}
use Rattle.explaining.specs.Promises.{ExplanationWritten}

-- Two answers of `write_explanation` to one file and one buffer are equal, and so is what they leave there.
pub one_explanation : (file out : List ℕ) (r r' : ℕ) (after after' : List ℕ) → ExplanationWritten file out r after → ExplanationWritten file out r' after'
    → (r ≡ r') × (after ≡ after')
one_explanation file out r r' after after' p q = (p.size ∙ sym q.size, p.stands ∙ sym q.stands)
