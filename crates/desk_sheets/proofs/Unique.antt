-- The promises of the calls on files and sheets leave one answer and one content of the lent bytes and numbers.
use mathlib.Core.Path.{◌≡◌, sym, ◌∙◌}
use mathlib.Core.List.{List}
use Prim.Native.Nat.{ℕ}
use Rattle.desk_sheets.specs.Promises.{FilingJudged, FilingReplaced, FilingVerified}

-- `desk_judge` leaves one answer and one content of the sheet,
pub one_judging : (file sheet : List ℕ) (a b : ℕ) (x y : List ℕ) → FilingJudged file sheet a x → FilingJudged file sheet b y → (a ≡ b) × (x ≡ y)
one_judging file sheet a b x y p q = (p.0 ∙ sym q.0, p.1 ∙ sym q.1)

-- `desk_replace` one answer, one file, one sheet and one number of rows,
pub one_replacing : (file sheet : List ℕ) (k : ℕ) (r : List ℕ) (a b : ℕ) (f g x y : List ℕ) (m n : ℕ)
    → FilingReplaced file sheet k r a f x m → FilingReplaced file sheet k r b g y n → (a ≡ b) × (f ≡ g) × (x ≡ y) × (m ≡ n)
one_replacing file sheet k r a b f g x y m n p q = (p.0 ∙ sym q.0, p.1 ∙ sym q.1, p.2 ∙ sym q.2, p.3 ∙ sym q.3)

-- and `desk_verify` one answer, one finding and one offset.
pub one_verifying : (file sheet : List ℕ) (a b c d m n : ℕ) → FilingVerified file sheet a c m → FilingVerified file sheet b d n → (a ≡ b) × (c ≡ d) × (m ≡ n)
one_verifying file sheet a b c d m n p q = (p.0 ∙ sym q.0, p.1.0 ∙ sym q.1.0, p.1.1 ∙ sym q.1.1)
