-- A field of one byte as the code takes it, and the rules of fields as it asks them.
use mathlib.Core.Path.{◌≡◌, refl}
use mathlib.Core.Bool.{Bool, true, false, not, and-true}
use mathlib.Core.List.{List, [], ◌∷◌}
use Prim.Native.Nat.{ℕ, suc, ◌<◌}
use lib.ListN.{length, get_or, take, drop}
use lib.Seq.{drop-cons}
use Rattle.columns.specs.Texts.{each, byte_good}
use Rattle.columns.proofs.AnswerLaws.{passed, failed}
use Rattle.basics.specs.Rules.{first_broken}

-- a field of one byte is that byte of the record
pub byte_field : (test : ℕ → Bool) (r : List ℕ) (i : ℕ) → i < length r → byte_good test (take 1 (drop i r)) ≡ test (get_or r i 0)
unfolding byte_good each
byte_field test r i h = rw (drop-cons r i 0 h) (and-true (test (get_or r i 0)))

-- rules asked one after the other, where r is what a test answered to the first of them: one that holds is passed,
pub passing : (k : ℕ) (rules : List Bool) {r b : Bool} → r ≡ b → not r ≡ false → first_broken k (b ∷ rules) ≡ first_broken (suc k) rules
unfolding first_broken
passing k rules e h = rw (passed e h)

-- and one that is broken gives its code
pub stopping : (k : ℕ) (rules : List Bool) {r b : Bool} → r ≡ b → not r ≡ true → k ≡ first_broken k (b ∷ rules)
unfolding first_broken
stopping k rules e h = rw (failed e h)

-- past the last there is none
pub passed_all : (k : ℕ) → 0 ≡ first_broken k []
unfolding first_broken
passed_all k = refl
