-- The promises of judging a header's record leave one answer.
use Rattle.basics.specs.Outcomes.{Outcome}
use mathlib.Core.Path.{◌≡◌, sym, ◌∙◌}
use mathlib.Core.List.{List}
use Prim.Native.Nat.{ℕ}
use Rattle.header_judging.specs.Promises.{HeaderChecked, HeaderFiled}

-- Two answers of `check_header` to one record are equal.
pub one_check : (r : List ℕ) (a b : Outcome) → HeaderChecked r a → HeaderChecked r b → a ≡ b
one_check r a b p q = p ∙ sym q

-- Two answers of `check_filed_header` to one record and one count of stations are equal.
pub one_filed_check : (r : List ℕ) (n : ℕ) (a b : Outcome) → HeaderFiled r n a → HeaderFiled r n b → a ≡ b
one_filed_check r n a b p q = p ∙ sym q
