-- The promise of reading a header's record leaves one answer.
use mathlib.Core.Path.{◌≡◌, sym, ◌∙◌}
use mathlib.Core.List.{List}
use Prim.Native.Nat.{ℕ}
use Rattle.header_reading.specs.Promises.{HeaderRead}
use Rattle.header_reading.specs.declared.ReadHeader.{ReadHeader}

-- Two answers of `read_header` to one record are equal.
pub one_reading : (r : List ℕ) (a b : ReadHeader) → HeaderRead r a → HeaderRead r b → a ≡ b
one_reading r a b p q = λ k. record { outcome = (p.0 ∙ sym q.0) k; header = (p.1 ∙ sym q.1) k }
