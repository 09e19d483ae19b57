-- The promises of respelling leave one answer, and one content of the lent bytes.
use Rattle.basics.specs.Outcomes.{Outcome}
use mathlib.Core.Path.{◌≡◌, sym, ◌∙◌}
use mathlib.Core.List.{List}
use Prim.Native.Nat.{ℕ}
use Rattle.respelling.specs.Promises.{StationRespelled, HeaderRespelled}

-- An answer and what is left that both meet a promise are those that it names.
pub one : {o : Outcome} {left : List ℕ} (a b : Outcome) (x y : List ℕ) → (a ≡ o) × (x ≡ left) → (b ≡ o) × (y ≡ left) → (a ≡ b) × (x ≡ y)
one a b x y p q = (p.0 ∙ sym q.0, p.1 ∙ sym q.1)

-- `respell_station`,
pub one_respelling : (r before : List ℕ) (a b : Outcome) (x y : List ℕ) → StationRespelled r before a x → StationRespelled r before b y → (a ≡ b) × (x ≡ y)
one_respelling r before = one

-- and `respell_header`.
pub one_header_respelling : (r before : List ℕ) (a b : Outcome) (x y : List ℕ) → HeaderRespelled r before a x → HeaderRespelled r before b y → (a ≡ b) × (x ≡ y)
one_header_respelling r before = one
