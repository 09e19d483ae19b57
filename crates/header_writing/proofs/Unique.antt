-- The promise of writing a header leaves one answer and one content of the lent bytes.
use Rattle.basics.specs.Outcomes.{Outcome}
use mathlib.Core.Path.{◌≡◌, sym, ◌∙◌}
use mathlib.Core.List.{List}
use Prim.Native.Nat.{ℕ}
use Rattle.header_writing.specs.Promises.{HeaderWritten}
use Rattle.header.specs.declared.Header.{Header}

-- Two answers of `write_header` to one header and one buffer are equal, and so is what they leave there.
pub one_writing : (h : Header) (before : List ℕ) (a b : Outcome) (x y : List ℕ) → HeaderWritten h before a x → HeaderWritten h before b y → (a ≡ b) × (x ≡ y)
one_writing h before a b x y p q = (p.0 ∙ sym q.0, p.1 ∙ sym q.1)
