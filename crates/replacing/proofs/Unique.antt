-- The promise of replacing leaves one answer and one content of the lent bytes.
use Rattle.std.specs.Prelude.{Result}
use mathlib.Core.Path.{◌≡◌, sym, ◌∙◌}
use mathlib.Core.List.{List}
use Prim.Native.Nat.{ℕ}
use Rattle.replacing.specs.Promises.{RecordReplaced}
use Rattle.basics.specs.declared.Refusal.{Refusal}
use Rattle.basics.proofs.RefusalLaws.{one_answer}

-- Two answers of `replace` to one file, one sheet, one number and one record are equal, and so are the files and the sheets that they leave.
pub one_replacing : (file sheet : List ℕ) (k : ℕ) (r : List ℕ) (a b : Result ℕ Refusal) (f g x y : List ℕ)
    → RecordReplaced file sheet k r a f x → RecordReplaced file sheet k r b g y → (a ≡ b) × (f ≡ g) × (x ≡ y)
one_replacing file sheet k r a b f g x y p q =
    (one_answer 0 a b (p.0 ∙ sym q.0) (p.1 ∙ sym q.1), p.2 ∙ sym q.2, p.3 ∙ sym q.3)
