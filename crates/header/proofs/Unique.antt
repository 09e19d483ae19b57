-- The promise of the call on a typed header leaves one answer.
use mathlib.Core.Path.{◌≡◌, sym, ◌∙◌}
use Prim.Native.Nat.{ℕ}
use Rattle.header.specs.Promises.{HeaderJudged}
use Rattle.header.specs.declared.Header.{Header}

-- Two answers of `typed_header_code` to one header are equal.
pub one_code : (h : Header) (a b : ℕ) → HeaderJudged h a → HeaderJudged h b → a ≡ b
one_code h a b p q = p ∙ sym q
