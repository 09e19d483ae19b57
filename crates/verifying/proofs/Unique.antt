-- The promise of verifying leaves one answer.
use mathlib.Core.Path.{◌≡◌, sym, ◌∙◌}
use mathlib.Core.List.{List}
use Prim.Native.Nat.{ℕ}
use Rattle.verifying.specs.Promises.{SheetVerified}
use Rattle.verifying.specs.declared.verifying.Verified.{Verified}

-- Two answers of `verify` to one file and one sheet are equal.
pub one_verifying : (file sheet : List ℕ) (a b : Verified) → SheetVerified file sheet a → SheetVerified file sheet b → a ≡ b
one_verifying file sheet a b p q = λ i. record { outcome = (p.0 ∙ sym q.0) i; finding = (p.1 ∙ sym q.1) i }
