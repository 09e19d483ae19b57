-- A field whose every place has a rule of its own, taken apart into runs of one set, literals and single places, from place i on.
use mathlib.Core.Path.{◌≡◌, refl, sym, ap, ◌∙◌}
use mathlib.Core.Bool.{Bool, true, false, ◌&&◌, false≢true, and_assoc, and-true}
use mathlib.Core.List.{List, [], ◌∷◌, ◌++◌}
use Prim.Native.Nat.{ℕ, zero, suc, ◌+◌, ◌≤◌, ◌<◌}
use Prim.Native.String.{String}
use Prim.Native.String as text
use native.Mathlib.Omega.{arith}
use native.Mathlib.Numerals.{add-one}
use lib.ListN.{length, get_or, take, drop, replicate, length-drop, length-replicate, drop_of_length-le}
use lib.Dec.{leb}
use borrow.Author.Tests.{eq-eqb, leb-true}
use lib.Seq.{drop-cons, drop-drop, take_all, length-take-le}
use Rattle.columns.specs.Sets.{is}
use Rattle.columns.specs.Frames.{frames}
use Rattle.columns.specs.Texts.{bytes, every, each, exactly, same}
use Rattle.columns.proofs.TextLaws as texts
use Rattle.columns.proofs.ColumnLaws.{each-sized}

-- a text of another length fails
pub not-each : (ts : List (ℕ → Bool)) (p : List ℕ) → (length p ≡ length ts → ⊥) → each ts p ≡ false
not-each ts p n = by (each ts p) refl where
  by : (r : Bool) → each ts p ≡ r → r ≡ false
  by true e = absurd (n (each-sized ts p e))
  by false e = refl

-- the tests of two parts, each on its own
each_append : (xs ys : List (ℕ → Bool)) (p : List ℕ) → each (xs ++ ys) p ≡ (each xs (take (length xs) p) && each ys (drop (length xs) p))
unfolding each
each_append [] ys p = refl
each_append (x ∷ xs) ys [] = refl
each_append (x ∷ xs) ys (c ∷ p) = ap (λ (b : Bool). x c && b) (each_append xs ys p) ∙ sym (and_assoc (x c) _ _)

-- one test for every byte
each-replicate : (k : ℕ) (t : ℕ → Bool) (p : List ℕ) → length p ≡ k → each (replicate k t) p ≡ every t p
each-replicate k t p e = texts.each-replicate k t p ∙ rw (eq-eqb (length p) k e)

-- the tests of a literal
each-exactly : (x : String) (p : List ℕ) → each (exactly x) p ≡ same (bytes x) p
unfolding each same
each-exactly text.[] [] = refl
each-exactly text.[] (c ∷ p) = refl
each-exactly (text.◌∷◌ x s) [] = refl
each-exactly (text.◌∷◌ x s) (c ∷ p) = ap (λ (b : Bool). is x c && b) (each-exactly s p)

exactly-length : (x : String) → length (exactly x) ≡ length (bytes x)
exactly-length text.[] = refl
exactly-length (text.◌∷◌ x s) = ap suc (exactly-length s)

module _ (s : List ℕ) (i : ℕ) where
  -- k places of a set stand first
  pub each_run : (k : ℕ) (t : ℕ → Bool) (ys : List (ℕ → Bool)) → i + k ≤ length s → each (replicate k t ++ ys) (drop i s) ≡ (every t (take k (drop i s)) && each ys (drop (i + k) s))
  each_run k t ys h =
      rw (each_append (replicate k t) ys (drop i s), length-replicate k t, each-replicate k t (take k (drop i s)) (length-take-le k (drop i s) (simp length-drop (omega arith))), drop-drop k i s)

  -- k places of a set are all that is left
  pub each_rest : (k : ℕ) (t : ℕ → Bool) → length s ≡ i + k → each (replicate k t) (drop i s) ≡ every t (take k (drop i s))
  each_rest k t h =
      let n : length (drop i s) ≡ k = simp length-drop (omega arith) in
      each-replicate k t (drop i s) n ∙ ap (every t) (sym (take_all k (drop i s) (omega arith)))

  -- a literal stands first
  pub each_word : (x : String) (ys : List (ℕ → Bool)) → each (exactly x ++ ys) (drop i s) ≡ (same (bytes x) (take (length (bytes x)) (drop i s)) && each ys (drop (i + length (bytes x)) s))
  each_word x ys =
      rw (each_append (exactly x) ys (drop i s), exactly-length x, each-exactly x, drop-drop (length (bytes x)) i s)

  -- one place stands first
  pub each_one : (t : ℕ → Bool) (ys : List (ℕ → Bool)) → i < length s → each (t ∷ ys) (drop i s) ≡ (t (get_or s i 0) && each ys (drop (i + 1) s))
  unfolding each
  each_one t ys h = rw (add-one, drop-cons s i 0)

  -- nothing is left
  pub each_none : length s ≤ i → each [] (drop i s) ≡ true
  unfolding each
  each_none h = rw (drop_of_length-le s h)

-- bytes from those of one text up to those of another, asked byte after byte with what was found so far
module _ (low high s : List ℕ) (e : length low ≡ length s) (f : length high ≡ length s) where
  pub framed_next : (i : ℕ) (all b : Bool) → i < length s → b ≡ (leb (get_or low i 0) (get_or s i 0) && leb (get_or s i 0) (get_or high i 0))
      → (all && each (frames (drop i low) (drop i high)) (drop i s)) ≡ ((all && b) && each (frames (drop (i + 1) low) (drop (i + 1) high)) (drop (i + 1) s))
  unfolding each
  framed_next i all b h q =
      rw (add-one i, drop-cons s i 0 h, drop-cons low i 0 (omega (arith, e)), drop-cons high i 0 (omega (arith, f)), q) (sym (and_assoc all _ _))

  pub framed_done : (i : ℕ) (all : Bool) → length s ≤ i → (all && each (frames (drop i low) (drop i high)) (drop i s)) ≡ all
  unfolding each
  framed_done i all h = rw (drop_of_length-le s h, drop_of_length-le low {i = i} (omega (arith, e))) (and-true all)

-- so each byte stands between the two of its place
pub framed_at : (low high p : List ℕ) → each (frames low high) p ≡ true → (i : ℕ) → i < length p → (get_or low i 0 ≤ get_or p i 0) × (get_or p i 0 ≤ get_or high i 0)
unfolding each
framed_at low high [] e i h = absurd (omega arith)
framed_at [] high (c ∷ p) e i h = absurd (false≢true e)
framed_at (x ∷ low) [] (c ∷ p) e i h = absurd (false≢true e)
framed_at (x ∷ low) (y ∷ high) (c ∷ p) e zero h =
    let here = (texts.and_split (leb x c && leb c y) (each (frames low high) p) e).0 in
    let both = texts.and_split (leb x c) (leb c y) here in
    (leb-true x c both.0, leb-true c y both.1)
framed_at (x ∷ low) (y ∷ high) (c ∷ p) e (suc i) h =
    framed_at low high p (texts.and_split (leb x c && leb c y) (each (frames low high) p) e).1 i (omega arith)
