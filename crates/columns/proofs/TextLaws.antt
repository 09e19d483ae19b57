-- What the tests on texts do at a place of a list.
use mathlib.Core.Path.{◌≡◌, refl, sym, ap, ◌∙◌}
use mathlib.Core.Bool.{Bool, true, false, cond, ◌&&◌, false≢true, and-true, and-false, and_assoc}
use mathlib.Core.List.{List, [], ◌∷◌, ◌++◌}
use Prim.Native.Nat.{ℕ, zero, suc, ◌+◌, ◌-◌, ◌≤◌, ◌<◌}
use native.Mathlib.Omega.{arith}
use native.Mathlib.Decide.{dec_lt, ℕ_discrete}
use native.Mathlib.Nat.{add-zero}
use native.Mathlib.Numerals.{add-one, sub-one}
use lib.Arith.{lt_of_le-ne}
use lib.Dec.{eqb, eqb-suc-suc}
use lib.ListN.{length, get_or, take, drop, replicate, length-drop, drop_of_length-le, get_or-eq_default}
use lib.Seq.{drop-cons, get_or-drop, drop-drop, take_all, take-suc, length-take-le}
use borrow.Author.Tests.{eq-eqb, ne_eqb, eqb-true}
use Rattle.std.specs.List.{list_all}
use Rattle.columns.specs.Texts.{head, tail, ended, skip, blank, trimmed, every, each, same, text_in}

-- the text of columns that are there is their bytes
pub text_there : (w a : ℕ) (r : List ℕ) → a + w ≤ length r → text_in w (take w (drop a r)) ≡ take w (drop a r)
unfolding text_in
text_there w a r h =
    let room : w ≤ length (drop a r) = simp length-drop (omega arith) in
    rw (eq-eqb (length (take w (drop a r))) w (length-take-le w (drop a r) room))

-- both tests passed
pub and_split : (a b : Bool) → (a && b) ≡ true → (a ≡ true) × (b ≡ true)
and_split true b e = (refl, e)
and_split false b e = absurd (false≢true e)

pub and_both : (a b : Bool) → a ≡ true → b ≡ true → (a && b) ≡ true
and_both a b e f = rw (e, f)

-- a choice has what both of its sides have
pub cond_case : {A : Type 0} (P : A → Type 0) (b : Bool) {x y : A} → (b ≡ true → P x) → (b ≡ false → P y) → P (cond b x y)
cond_case P true f g = f refl
cond_case P false f g = g refl

-- a writer's promise: where the test fails nothing is written,
pub kept : {A : Type 0} {t : Bool} (x : A) {y : A} → t ≡ false → (false ≡ t) × (y ≡ cond t x y)
kept x e = rw e (refl, refl)

-- and where it passes the spelling stands
pub wrote : {A : Type 0} {t : Bool} {s x : A} (y : A) → t ≡ true → s ≡ x → (true ≡ t) × (s ≡ cond t x y)
wrote y e f = rw e (refl, f)

-- the first byte of a rest, and the rest after it
pub head_at : (s : List ℕ) (i : ℕ) → head (drop i s) ≡ get_or s i 0
head_at s i = rw (get_or-drop, add-zero)

pub tail_at : (s : List ℕ) (i : ℕ) → tail (drop i s) ≡ drop (i + 1) s
tail_at s i = drop-drop 1 i s

-- what a part from i on holds
pub from_on : (s : List ℕ) (i : ℕ) → take (length s - i) (drop i s) ≡ drop i s
from_on s i = take_all (length s - i) (drop i s) (simp length-drop (omega arith))

-- a byte that is not 0 is not past the end
pub byte_below : (s : List ℕ) (i x : ℕ) → get_or s i 0 ≡ x → 0 < x → i < length s
byte_below s i x e h =
    elim (dec_lt i (length s)) [ yes l ↦ l | no l ↦ omega (arith, get_or-eq_default s 0 {n = i} (omega arith)) ]

-- nothing is left exactly at the end
pub at_end : (s : List ℕ) (i : ℕ) → i ≡ length s → ended (drop i s) ≡ true
at_end s i e = rw (drop_of_length-le s {i = i} (omega arith))

pub not_at_end : (s : List ℕ) (i : ℕ) → i ≤ length s → (i ≡ length s → ⊥) → ended (drop i s) ≡ false
not_at_end s i l n = rw (drop-cons s i 0 (lt_of_le-ne l n))

pub ended-drop : (s : List ℕ) (i : ℕ) → i ≤ length s → ended (drop i s) ≡ eqb i (length s)
ended-drop s i l =
    elim (ℕ_discrete i (length s)) [ yes e ↦ at_end s i e ∙ sym (eq-eqb i (length s) e) | no n ↦ not_at_end s i l n ∙ sym (ne_eqb i (length s) n) ]

pub ended-length : (t : List ℕ) → ended t ≡ eqb (length t) 0
ended-length [] = refl
ended-length (c ∷ t) = sym (ne_eqb (suc (length t)) 0 (λ e. omega arith))

pub skip_other : (s : List ℕ) (i : ℕ) → i < length s → (get_or s i 0 ≡ 32 → ⊥) → skip (drop i s) ≡ drop i s
unfolding skip
skip_other s i h e = rw (drop-cons s i 0) (simp (ne_eqb _ _ e))

-- a test on every byte
pub every_more : (test : ℕ → Bool) (s : List ℕ) (i : ℕ) → i < length s → test (get_or s i 0) ≡ true → every test (drop i s) ≡ every test (drop (i + 1) s)
unfolding every
every_more test s i h e = rw (add-one, drop-cons s i 0, e)

pub every_end : (test : ℕ → Bool) (s : List ℕ) (i : ℕ) → length s ≤ i → every test (drop i s) ≡ true
unfolding every
every_end test s i h = rw (drop_of_length-le s h)

-- the library asks the same of every byte
pub every-list_all : (test : ℕ → Bool) (s : List ℕ) → every test s ≡ list_all test s
unfolding every
every-list_all test [] = refl
every-list_all test (c ∷ s) = ap (λ (b : Bool). test c && b) (every-list_all test s)

-- asked byte after byte, with what was found so far
pub every_next : (test : ℕ → Bool) (s : List ℕ) (i : ℕ) (all b : Bool) → i < length s → b ≡ test (get_or s i 0) → (all && every test (drop i s)) ≡ ((all && b) && every test (drop (i + 1) s))
unfolding every
every_next test s i all b h e = rw (add-one i, drop-cons s i 0 h, e) (sym (and_assoc all (test (get_or s i 0)) (every test (drop (suc i) s))))

pub every-done : (test : ℕ → Bool) (s : List ℕ) (i : ℕ) (all : Bool) → length s ≤ i → (all && every test (drop i s)) ≡ all
every-done test s i all h = rw (every_end test s i h) (and-true all)

-- a byte that is asked for by itself, and that passes, may be asked with those behind it
pub every_with : (test : ℕ → Bool) (s : List ℕ) (i k x : ℕ) → i < length s → test x ≡ true
    → (eqb (get_or s i 0) x && every test (take (suc k) (drop i s))) ≡ (eqb (get_or s i 0) x && every test (take k (drop (i + 1) s)))
unfolding every
every_with test s i k x h e = rw (add-one i, drop-cons s i 0 h) (by (eqb (get_or s i 0) x) refl) where
  by : (b : Bool) → eqb (get_or s i 0) x ≡ b → (b && (test (get_or s i 0) && every test (take k (drop (suc i) s)))) ≡ (b && every test (take k (drop (suc i) s)))
  by true q = rw (eqb-true (get_or s i 0) x q, e)
  by false q = refl

-- equal texts have one length
pub same_length : (a b : List ℕ) → same a b ≡ true → length a ≡ length b
unfolding same
same_length [] [] e = refl
same_length [] (y ∷ b) e = absurd (false≢true e)
same_length (x ∷ a) [] e = absurd (false≢true e)
same_length (x ∷ a) (y ∷ b) e = ap suc (same_length a b (and_split (eqb y x) (same a b) e).1)

-- texts of two lengths are not equal
pub not_same : (a b : List ℕ) → (length a ≡ length b → ⊥) → same a b ≡ false
not_same a b n = by (same a b) refl where
  by : (r : Bool) → same a b ≡ r → r ≡ false
  by true e = absurd (n (same_length a b e))
  by false e = refl

-- a test on every byte passes on every part
pub every_take : (test : ℕ → Bool) (n : ℕ) (p : List ℕ) → every test p ≡ true → every test (take n p) ≡ true
unfolding every
every_take test zero p e = refl
every_take test (suc n) [] e = refl
every_take test (suc n) (c ∷ p) e =
    let h = and_split (test c) (every test p) e in
    and_both (test c) (every test (take n p)) h.0 (every_take test n p h.1)

pub every_drop : (test : ℕ → Bool) (n : ℕ) (p : List ℕ) → every test p ≡ true → every test (drop n p) ≡ true
unfolding every
every_drop test zero p e = e
every_drop test (suc n) [] e = refl
every_drop test (suc n) (c ∷ p) e = every_drop test n p (and_split (test c) (every test p) e).1

-- and on the byte at each place
pub every_at : (test : ℕ → Bool) (p : List ℕ) (i : ℕ) → every test p ≡ true → i < length p → test (get_or p i 0) ≡ true
unfolding every
every_at test [] i e h = absurd (omega arith)
every_at test (c ∷ p) zero e h = (and_split (test c) (every test p) e).0
every_at test (c ∷ p) (suc i) e h = every_at test p i (and_split (test c) (every test p) e).1 (omega arith)

-- two parts that meet or lap over are all of a text
every_join : (test : ℕ → Bool) (a b : ℕ) (p : List ℕ) → b ≤ a → every test (take a p) ≡ true → every test (drop b p) ≡ true → every test p ≡ true
unfolding every
every_join test a b [] l e f = refl
every_join test zero zero (c ∷ p) l e f = f
every_join test zero (suc b) (c ∷ p) l e f = absurd (omega arith)
every_join test (suc a) zero (c ∷ p) l e f = f
every_join test (suc a) (suc b) (c ∷ p) l e f =
    let h = and_split (test c) (every test (take a p)) e in
    and_both (test c) (every test p) h.0 (every_join test a b p (omega arith) h.1 f)

pub every-parts : (test : ℕ → Bool) (a b : ℕ) (p : List ℕ) → b ≤ a → (every test (take a p) && every test (drop b p)) ≡ every test p
every-parts test a b p l = by (every test p) (every test (take a p)) (every test (drop b p)) refl refl refl where
  by : (q x y : Bool) → every test p ≡ q → every test (take a p) ≡ x → every test (drop b p) ≡ y → (x && y) ≡ q
  by true x y e f g = and_both x y (sym f ∙ every_take test a p e) (sym g ∙ every_drop test b p e)
  by false true true e f g = sym (every_join test a b p l f g) ∙ e
  by false true false e f g = refl
  by false false y e f g = refl

-- k places of one test: k bytes, and each passes
pub each-replicate : (k : ℕ) (test : ℕ → Bool) (p : List ℕ) → each (replicate k test) p ≡ eqb (length p) k && every test p
unfolding each every
each-replicate zero test [] = refl
each-replicate zero test (c ∷ p) = rw (ne_eqb (suc (length p)) 0 (λ e. omega arith))
each-replicate (suc k) test [] = rw (ne_eqb 0 (suc k) (λ e. omega arith))
each-replicate (suc k) test (c ∷ p) = by (test c) (each-replicate k test p) where
  by : (b : Bool) → each (replicate k test) p ≡ eqb (length p) k && every test p → b && each (replicate k test) p ≡ eqb (suc (length p)) (suc k) && (b && every test p)
  by true e = rw (eqb-suc-suc (length p) k) e
  by false e = sym (and-false (eqb (suc (length p)) (suc k)))

-- a space at the end of a text changes neither whether it is blank nor what is left with trailing spaces off,
blank_space : (p : List ℕ) → blank (p ++ (32 ∷ [])) ≡ blank p
unfolding skip
blank_space [] = refl
blank_space (x ∷ p) = by (eqb x 32) (blank_space p) where
  by : (b : Bool) → ended (skip (p ++ (32 ∷ []))) ≡ ended (skip p) → ended (cond b (skip (p ++ (32 ∷ []))) (x ∷ (p ++ (32 ∷ [])))) ≡ ended (cond b (skip p) (x ∷ p))
  by true e = e
  by false e = refl

trim_space : (p : List ℕ) → trimmed (p ++ (32 ∷ [])) ≡ trimmed p
unfolding trimmed
trim_space [] = unfold skip in refl
trim_space (x ∷ p) = rw (blank_space (x ∷ p), trim_space p)

-- and a byte that is none leaves all
not-blank : (p : List ℕ) (c : ℕ) → (c ≡ 32 → ⊥) → blank (p ++ (c ∷ [])) ≡ false
unfolding skip
not-blank [] c n = rw (ne_eqb c 32 n)
not-blank (x ∷ p) c n = cond_case (λ (l : List ℕ). ended l ≡ false) (eqb x 32) (λ e. not-blank p c n) (λ e. refl)

trim_other : (p : List ℕ) (c : ℕ) → (c ≡ 32 → ⊥) → trimmed (p ++ (c ∷ [])) ≡ p ++ (c ∷ [])
unfolding trimmed
trim_other [] c n = rw (not-blank [] c n)
trim_other (x ∷ p) c n = rw (not-blank (x ∷ p) c n, trim_other p c n)

-- the first n bytes end in byte n
first-bytes : (s : List ℕ) (n : ℕ) → 0 < n → n ≤ length s → take n s ≡ take (n - 1) s ++ (get_or s (n - 1) 0 ∷ [])
first-bytes s zero h l = absurd (omega arith)
first-bytes s (suc n) h l = rw sub-one (take-suc s n 0 l)

pub trimmed-on : (s : List ℕ) (n : ℕ) → 0 < n → n ≤ length s → get_or s (n - 1) 0 ≡ 32 → trimmed (take n s) ≡ trimmed (take (n - 1) s)
trimmed-on s n h l e = ap trimmed (first-bytes s n h l) ∙ rw e (trim_space (take (n - 1) s))

pub trimmed_off : (s : List ℕ) (n : ℕ) → 0 < n → n ≤ length s → (get_or s (n - 1) 0 ≡ 32 → ⊥) → trimmed (take n s) ≡ take n s
trimmed_off s n h l e = rw (first-bytes s n h l) (trim_other (take (n - 1) s) (get_or s (n - 1) 0) e)

-- equal texts with a byte more at the end of each
same-last : (a b : List ℕ) (x y : ℕ) → length a ≡ length b → same (a ++ (x ∷ [])) (b ++ (y ∷ [])) ≡ same a b && eqb y x
unfolding same
same-last [] [] x y l = and-true (eqb y x)
same-last [] (d ∷ b) x y l = absurd (omega (arith, l))
same-last (c ∷ a) [] x y l = absurd (omega (arith, l))
same-last (c ∷ a) (d ∷ b) x y l = rw (same-last a b x y (omega (arith, l))) (sym (and_assoc (eqb d c) (same a b) (eqb y x)))

-- the first n bytes of two texts of one length are equal where the first n - 1 are and byte n is
same-before : (a b : List ℕ) (n : ℕ) → 0 < n → n ≤ length a → length a ≡ length b → same (take n a) (take n b) ≡ same (take (n - 1) a) (take (n - 1) b) && eqb (get_or b (n - 1) 0) (get_or a (n - 1) 0)
same-before a b n h l e =
    rw (first-bytes a n h l, first-bytes b n h (omega (arith, l, e)))
    (same-last (take (n - 1) a) (take (n - 1) b) (get_or a (n - 1) 0) (get_or b (n - 1) 0)
    (length-take-le (n - 1) a (omega (arith, l)) ∙ sym (length-take-le (n - 1) b (omega (arith, l, e)))))

-- a byte that is equal is passed, one that is not decides
pub same-on : (a b : List ℕ) (n : ℕ) → 0 < n → n ≤ length a → length a ≡ length b → get_or a (n - 1) 0 ≡ get_or b (n - 1) 0 → same (take n a) (take n b) ≡ same (take (n - 1) a) (take (n - 1) b)
same-on a b n h l e q = same-before a b n h l e ∙ rw (eq-eqb (get_or b (n - 1) 0) (get_or a (n - 1) 0) (sym q)) (and-true (same (take (n - 1) a) (take (n - 1) b)))

pub same_off : (a b : List ℕ) (n : ℕ) → 0 < n → n ≤ length a → length a ≡ length b → (get_or a (n - 1) 0 ≡ get_or b (n - 1) 0 → ⊥) → same (take n a) (take n b) ≡ false
same_off a b n h l e q = same-before a b n h l e ∙ rw (ne_eqb (get_or b (n - 1) 0) (get_or a (n - 1) 0) (λ f. q (sym f))) (and-false (same (take (n - 1) a) (take (n - 1) b)))

-- spaces are blank
pub skip-spaces : (n : ℕ) → skip (replicate n 32) ≡ []
unfolding skip
skip-spaces zero = refl
skip-spaces (suc n) = skip-spaces n

-- and what is blank is spaces
pub blank-spaces : (p : List ℕ) → blank p ≡ true → replicate (length p) 32 ≡ p
unfolding skip
blank-spaces [] e = refl
blank-spaces (c ∷ p) e = by (eqb c 32) refl (blank-spaces p) e where
  by : (b : Bool) → eqb c 32 ≡ b → (blank p ≡ true → replicate (length p) 32 ≡ p) → ended (cond b (skip p) (c ∷ p)) ≡ true → 32 ∷ replicate (length p) 32 ≡ c ∷ p
  by true q on e = rw (eqb-true c 32 q) (ap (λ (l : List ℕ). 32 ∷ l) (on e))
  by false q on e = absurd (false≢true e)
