-- The promises of the calls that locate leave one answer and one content of the lent numbers.
use mathlib.Core.Path.{◌≡◌, sym, ◌∙◌}
use mathlib.Core.List.{List}
use Prim.Native.Nat.{ℕ}
use Rattle.desk_locating.specs.Promises.{FieldLocated, NumberLocated, MarksTold, LongFieldTold}

-- `desk_show` one answer, one offset and one length,
pub one_showing : (file : List ℕ) (k j : ℕ) (a b c d m n : ℕ) → FieldLocated file k j a c m → FieldLocated file k j b d n → (a ≡ b) × (c ≡ d) × (m ≡ n)
one_showing file k j a b c d m n p q = (p.0 ∙ sym q.0, p.1 ∙ sym q.1, p.2 ∙ sym q.2)

-- `desk_carriage_number` one answer and one offset,
pub one_number_located : (name : List ℕ) (a b c d : ℕ) → NumberLocated name a c → NumberLocated name b d → (a ≡ b) × (c ≡ d)
one_number_located name a b c d p q = (p.0 ∙ sym q.0, p.1 ∙ sym q.1)

-- `desk_line_marks` one answer and one content of its three numbers,
pub one_marks_told : (t : List ℕ) (a b c d e f g h : ℕ) → MarksTold t a c e g → MarksTold t b d f h → (a ≡ b) × (c ≡ d) × (e ≡ f) × (g ≡ h)
one_marks_told t a b c d e f g h p q = (p.0 ∙ sym q.0, p.1 ∙ sym q.1, p.2 ∙ sym q.2, p.3 ∙ sym q.3)

-- and so `desk_long_field`.
pub one_long_field_told : (t : List ℕ) (a b c d e f g h : ℕ) → LongFieldTold t a c e g → LongFieldTold t b d f h → (a ≡ b) × (c ≡ d) × (e ≡ f) × (g ≡ h)
one_long_field_told t a b c d e f g h p q = (p.0 ∙ sym q.0, p.1 ∙ sym q.1, p.2 ∙ sym q.2, p.3 ∙ sym q.3)
