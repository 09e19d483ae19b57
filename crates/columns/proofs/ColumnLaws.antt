-- Each kind of column reads back what it writes, and writes what it reads: four laws, one instance for each kind.
use mathlib.Core.Path.{◌≡◌, refl, sym, ap, ◌∙◌}
use mathlib.Core.Bool.{Bool, true, false, not, ◌&&◌, ◌||◌, false≢true, and-true}
use mathlib.Core.List.{List, [], ◌∷◌}
use Prim.Native.String.{String}
use Prim.Native.Nat.{ℕ, suc}
use lib.Dec.{eqb}
use lib.ListN.{length}
use borrow.Author.Tests.{eqb-true}
use Rattle.columns.specs.Texts.{bytes, head, blank, every, each, byte_good, same, one_of, sized, text_good}
use Rattle.columns.proofs.TextLaws.{and_split}

-- A kind of column. What is written of a value that fits has the column's width, breaks no rule and is read back; what has the width and breaks no rule is read as a value that fits.
pub record Column {A : Type 0} (width : ℕ) (good : List ℕ → Bool) (value : List ℕ → A) (fits : A → Bool) (spelt : A → List ℕ) : Type 0 where
  pub wide : (v : A) → fits v ≡ true → length (spelt v) ≡ width
  pub kept : (v : A) → fits v ≡ true → good (spelt v) ≡ true
  pub back : (v : A) → fits v ≡ true → value (spelt v) ≡ v
  pub read : (p : List ℕ) → length p ≡ width → good p ≡ true → fits (value p) ≡ true

-- So two values with one spelling are equal.
pub one_spelling : {A : Type 0} {w : ℕ} {good : List ℕ → Bool} {value : List ℕ → A} {fits : A → Bool} {spelt : A → List ℕ}
    → Column w good value fits spelt → (u v : A) → fits u ≡ true → fits v ≡ true → spelt u ≡ spelt v → u ≡ v
one_spelling {value = value} k u v e f g = sym (k.back u e) ∙ ap value g ∙ k.back v f

-- ---- text that is kept as its bytes

pub text_column : (w : ℕ) (good : List ℕ → Bool) → ((p : List ℕ) → good p ≡ true → length p ≡ w) → Column w good (λ p. p) good (λ p. p)
text_column w good sized = record { wide = sized; kept = λ p e. e; back = λ p e. refl; read = λ p l e. e }

-- a place for each test
pub each-sized : (tests : List (ℕ → Bool)) (p : List ℕ) → each tests p ≡ true → length p ≡ length tests
unfolding each
each-sized [] [] e = refl
each-sized [] (c ∷ p) e = absurd (false≢true e)
each-sized (t ∷ ts) [] e = absurd (false≢true e)
each-sized (t ∷ ts) (c ∷ p) e = ap suc (each-sized ts p (and_split (t c) (each ts p) e).1)

pub same-sized : (x p : List ℕ) → same x p ≡ true → length p ≡ length x
unfolding same
same-sized [] [] e = refl
same-sized [] (c ∷ p) e = absurd (false≢true e)
same-sized (x ∷ xs) [] e = absurd (false≢true e)
same-sized (x ∷ xs) (c ∷ p) e = ap suc (same-sized xs p (and_split (eqb c x) (same xs p) e).1)

-- one of two tests passed
pub either : {A : Type 0} (a b : Bool) → (a || b) ≡ true → (a ≡ true → A) → (b ≡ true → A) → A
either true b e f g = f refl
either false b e f g = g e

-- all of the literals have w bytes
abbrev pub AllSized : ℕ → List String → Type 0
AllSized w [] = Unit {0}
AllSized w (x ∷ xs) = (length (bytes x) ≡ w) × AllSized w xs

pub one_sized : (w : ℕ) (xs : List String) (p : List ℕ) → AllSized w xs → one_of xs p ≡ true → length p ≡ w
unfolding one_of
one_sized w [] p h e = absurd (false≢true e)
one_sized w (x ∷ xs) p h e = either (same (bytes x) p) (one_of xs p) e (λ f. same-sized (bytes x) p f ∙ h.0) (λ f. one_sized w xs p h.1 f)

pub text_sized : (w : ℕ) (set : ℕ → Bool) (p : List ℕ) → text_good w set p ≡ true → length p ≡ w
unfolding text_good
text_sized w set p e = eqb-true (length p) w (and_split (sized w p) (every set p) (and_split (sized w p && every set p) (blank p || not (eqb (head p) 32)) e).0).0

-- one byte
byte_is : (test : ℕ → Bool) (p : List ℕ) → byte_good test p ≡ true → test (head p) ≡ true
unfolding byte_good each
byte_is test [] e = absurd (false≢true e)
byte_is test (c ∷ p) e = (and_split (test c) (each [] p) e).0

pub byte_column : (test : ℕ → Bool) → Column 1 (byte_good test) head test (λ c. c ∷ [])
unfolding byte_good each
byte_column test = record { wide = λ c e. refl; kept = λ c e. and-true (test c) ∙ e; back = λ c e. refl; read = λ p l e. byte_is test p e }
