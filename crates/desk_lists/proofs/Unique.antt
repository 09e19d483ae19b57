-- The promises of the calls on lines leave one answer, one code and one content of the lent bytes.
use mathlib.Core.Path.{◌≡◌, sym, ◌∙◌}
use mathlib.Core.List.{List}
use Prim.Native.Nat.{ℕ}
use Rattle.desk_lists.specs.Promises.{RecordLineOut, LineRecordIn}

-- `desk_list_out` one answer, one code, one content of the buffer and one length of the line,
pub one_line_out : (r before : List ℕ) (a b c d m n : ℕ) (x y : List ℕ) → RecordLineOut r before a x m c → RecordLineOut r before b y n d → (a ≡ b) × (c ≡ d) × (x ≡ y) × (m ≡ n)
one_line_out r before a b c d m n x y p q = (p.0.0 ∙ sym q.0.0, p.0.1 ∙ sym q.0.1, p.1 ∙ sym q.1, p.2 ∙ sym q.2)

-- and `desk_list_in` one answer, one code and one content of the record.
pub one_line_in : (t before : List ℕ) (a b c d : ℕ) (x y : List ℕ) → LineRecordIn t before a x c → LineRecordIn t before b y d → (a ≡ b) × (c ≡ d) × (x ≡ y)
one_line_in t before a b c d x y p q = (p.0.0 ∙ sym q.0.0, p.0.1 ∙ sym q.0.1, p.1 ∙ sym q.1)
