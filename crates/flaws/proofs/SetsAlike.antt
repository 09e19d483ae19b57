-- Two sets that agree on every byte agree on every number, where neither reaches beyond the bytes: one computed test. So a set is its letters.
use mathlib.Core.Path.{◌≡◌, refl, sym, ap, ◌∙◌}
use mathlib.Core.Bool.{Bool, true, false, ◌&&◌, ◌||◌, and-false}
use mathlib.Core.List.{List, [], ◌∷◌}
use Prim.Native.Nat.{ℕ, ◌≤◌, ◌<◌}
use Prim.Native.Char.{Char, code}
use Prim.Native.String.{String}
use Prim.Native.String as string
use native.Mathlib.Omega.{arith}
use lib.Dec.{T, ltb, leb, eqb}
use borrow.Author.Tests.{ltb-true, ltb-false, lt-leb, ne_eqb}
use Rattle.columns.specs.Sets.{is, among, between}
use Rattle.columns.specs.Texts.{bytes, every}
use Rattle.columns.proofs.SetLaws.{and_left, and_right, agreeing, agree_below}
use Rattle.flaws.specs.Flaws.{letter_of, unread}

low_true : (b : Bool) → T b → b ≡ true
low_true true t = refl
low_true false t = absurd t

-- A set that reaches no further than the bytes.
abbrev pub Bytes : (ℕ → Bool) → Type 0
Bytes S = (c : ℕ) → 256 ≤ c → S c ≡ false

pub far_or : (a b : Bool) → a ≡ false → b ≡ false → (a || b) ≡ false
far_or a b e f = rw (e, f)

pub far_between : (low high : Char) → T (ltb (code high) 256) → Bytes (between low high)
far_between low high t c h = rw (lt-leb c (code high) (omega (arith, ltb-true (code high) 256 (low_true (ltb (code high) 256) t)))) (and-false (leb (code low) c))

pub far_is : (x : Char) → T (ltb (code x) 256) → Bytes (is x)
far_is x t c h = ne_eqb c (code x) (λ q. absurd (omega (arith, ltb-true (code x) 256 (low_true (ltb (code x) 256) t))))

abbrev pub letters_low : List ℕ → Bool
letters_low [] = true
letters_low (x ∷ xs) = ltb x 256 && letters_low xs

pub far_letters : (l : List ℕ) → T (letters_low l) → Bytes (letter_of l)
unfolding letter_of
far_letters [] t c h = refl
far_letters (x ∷ xs) t c h =
    let b : x < 256 = ltb-true x 256 (low_true (ltb x 256) (and_left (ltb x 256) (letters_low xs) t)) in
    far_or (eqb c x) (letter_of xs c) (ne_eqb c x (λ q. absurd (omega arith))) (far_letters xs (and_right (ltb x 256) (letters_low xs) t) c h)

-- A literal's bytes are its letters.
pub among-letters : (s : String) (c : ℕ) → among s c ≡ letter_of (bytes s) c
unfolding among letter_of
among-letters string.[] c = refl
among-letters (string.◌∷◌ x s) c = ap (λ (b : Bool). is x c || b) (among-letters s c)

pub far_among : (s : String) → T (letters_low (bytes s)) → Bytes (among s)
far_among s t c h = among-letters s c ∙ far_letters (bytes s) t c h

-- Two sets of bytes that agree on the 256 bytes agree.
pub alike : (S R : ℕ → Bool) → Bytes S → Bytes R → T (agreeing S R 256) → (c : ℕ) → S c ≡ R c
alike S R far near t c = by (ltb c 256) refl where
  by : (b : Bool) → ltb c 256 ≡ b → S c ≡ R c
  by true e = agree_below S R 256 t c (ltb-true c 256 e)
  by false e = let h = ltb-false c 256 e in far c h ∙ sym (near c h)

-- Every byte of a text is in the one as it is in the other, and what is unread is so by either.
pub every-alike : (S R : ℕ → Bool) → ((c : ℕ) → S c ≡ R c) → (p : List ℕ) → every S p ≡ every R p
unfolding every
every-alike S R e [] = refl
every-alike S R e (c ∷ p) = rw (e c, every-alike S R e p)

pub unread-alike : (S R : ℕ → Bool) → ((c : ℕ) → S c ≡ R c) → (p : List ℕ) → unread S p ≡ unread R p
unread-alike S R e p = rw (every-alike S R e p)

-- So what is unread by a set is so by its letters.
pub by_letters : (S : ℕ → Bool) (l : List ℕ) → Bytes S → T (letters_low l) → T (agreeing S (letter_of l) 256) → (p : List ℕ) → unread (letter_of l) p ≡ unread S p
by_letters S l far low t p = sym (unread-alike S (letter_of l) (alike S (letter_of l) far (far_letters l low) t) p)
