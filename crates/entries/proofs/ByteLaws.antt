-- A field of one byte has its length's and its bytes' flaw.
use mathlib.Core.Path.{◌≡◌, refl, sym, ap, ◌∙◌}
use mathlib.Core.Bool.{Bool, true, false, cond, not, ◌&&◌, and-true, and-false}
use mathlib.Core.List.{List, [], ◌∷◌}
use Prim.Native.Nat.{ℕ, suc}
use native.Mathlib.Omega.{arith}
use lib.Dec.{eqb}
use lib.ListN.{length}
use borrow.Author.Tests.{ne_eqb}
use Rattle.columns.specs.Sets.{among}
use Rattle.columns.specs.Texts.{bytes, every, each, byte_good}
use Rattle.flaws.specs.Flaws.{letter_of}
use Rattle.flaw_parts.specs.Parts.{plain, flaw_in}
use Rattle.flaws.specs.declared.Flaw.TheVariants as flaw
use Rattle.flaws.proofs.SetsAlike.{among-letters, every-alike}
use Rattle.entries.specs.Entries.{one_byte, one_of_set}

-- one byte that is admitted keeps its field's rule, and no other text does
by_length : (set : ℕ → Bool) (p : List ℕ) → byte_good set p ≡ (eqb (length p) 1 && every set p)
unfolding byte_good each every
by_length set [] = refl
by_length set (c ∷ []) = refl
by_length set (c ∷ d ∷ p) = and-false (set c) ∙ sym (ap (λ (b : Bool). b && (set c && (set d && every set p))) (ne_eqb (suc (suc (length p))) 1 (λ e. absurd (omega arith))))

pub one_byte_lem : (set : ℕ → Bool) (p : List ℕ) → one_byte (length p) (every set p) ≡ one_of_set set p
one_byte_lem set p = rw (by_length set p) (by (eqb (length p) 1) (every set p)) where
  by : (n e : Bool) → cond e (cond n flaw.None flaw.Shape) flaw.Byte ≡ cond (not e) flaw.Byte (cond ((n && e) && false) flaw.Range (cond (not (n && e)) flaw.Shape flaw.None))
  by true true = refl
  by true false = refl
  by false true = refl
  by false false = refl

-- The letters of a unit are the bytes that its field admits.
pub unit_letters : (p : List ℕ) → every (letter_of (bytes "kMG ")) p ≡ every (among "kMG ") p
unit_letters p = sym (every-alike (among "kMG ") (letter_of (bytes "kMG ")) (among-letters "kMG ") p)
