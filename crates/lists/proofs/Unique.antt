-- The promises of the calls on a line leave one answer, and one content of the lent bytes.
use Rattle.basics.proofs.RefusalLaws.{one_answer}
use Rattle.basics.specs.declared.Refusal.{Refusal}
use Rattle.std.specs.Prelude.{Result}
use mathlib.Core.Path.{◌≡◌, sym, ◌∙◌}
use mathlib.Core.Bool.{Bool}
use mathlib.Core.List.{List}
use Prim.Native.Nat.{ℕ}
use lib.Dec.{eqb}
use Rattle.station.specs.declared.Station.{Station}
use Rattle.basics.specs.Outcomes.{refusal, code_with, Outcome}
use Rattle.lists.specs.Promises.{LineRead, LineWritten, RecordListed, LineFiled}
use Rattle.lists.specs.declared.ReadLine.{ReadLine}

-- Two answers of `read_line` to one line are equal.
pub one_line_read : (t : List ℕ) (a b : ReadLine) → LineRead t a → LineRead t b → a ≡ b
one_line_read t a b p q = λ k. record { outcome = (p.0 ∙ sym q.0) k; station = (p.1 ∙ sym q.1) k }

-- Two answers of `write_line` to one station and one buffer are equal, and so is what they leave there.
pub one_line_written : (s : Station) (before : List ℕ) (a b : Result ℕ Refusal) (x y : List ℕ) → LineWritten s before a x → LineWritten s before b y → (a ≡ b) × (x ≡ y)
one_line_written s before a b x y p q = (one_answer 0 a b (p.0 ∙ sym q.0) (p.1 ∙ sym q.1), p.2 ∙ sym q.2)

-- Two answers of `record_to_line` to one record and one buffer are equal, and so is what they leave there.
pub one_record_listed : (r before : List ℕ) (a b : Result ℕ Refusal) (x y : List ℕ) → RecordListed r before a x → RecordListed r before b y → (a ≡ b) × (x ≡ y)
one_record_listed r before a b x y p q = (one_answer 0 a b (p.0 ∙ sym q.0) (p.1 ∙ sym q.1), p.2 ∙ sym q.2)

-- Two answers of `line_to_record` to one line and the same lent bytes are equal, and so is what they leave there.
pub one_line_filed : (t before : List ℕ) (a b : Outcome) (x y : List ℕ) → LineFiled t before a x → LineFiled t before b y → (a ≡ b) × (x ≡ y)
one_line_filed t before a b x y p q = (p.0 ∙ sym q.0, p.1 ∙ sym q.1)
