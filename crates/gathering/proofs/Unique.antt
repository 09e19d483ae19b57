-- The promises of the calls that gather a line leave one answer, and one content of the lent bytes.
use mathlib.Core.Path.{◌≡◌, sym, ◌∙◌}
use mathlib.Core.List.{List}
use Prim.Native.Nat.{ℕ}
use Rattle.gathering.specs.Promises.{LineEnded, Begun, GoneOn}
use Rattle.gathering.specs.declared.Gathered.{Gathered}

-- Two answers of `line_end` to one text are equal.
pub one_line_ended : (t : List ℕ) (a b : ℕ) → LineEnded t a → LineEnded t b → a ≡ b
one_line_ended t a b p q = p ∙ sym q

-- Two answers of `nothing` are equal.
pub one_begun : (a b : Gathered) → Begun a → Begun b → a ≡ b
one_begun a b p q = p ∙ sym q

-- Two answers of `gather` to one part, beside one buffer, are equal, and so is what they leave there.
pub one_gone_on : (before : List ℕ) (g : Gathered) (part : List ℕ) (a b : Gathered) (x y : List ℕ) → GoneOn before g part a x → GoneOn before g part b y → (a ≡ b) × (x ≡ y)
one_gone_on before g part a b x y p q = (p.0 ∙ sym q.0, p.1 ∙ sym q.1)
