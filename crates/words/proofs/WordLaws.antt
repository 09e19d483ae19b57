-- Bytes as numbers: equal numbers are equal bytes.
use mathlib.Core.Path.{◌≡◌, refl, sym, ap, ◌∙◌}
use mathlib.Core.Bool.{Bool, true, false, false≢true}
use mathlib.Core.List.{List, [], ◌∷◌}
use Prim.Native.Nat.{ℕ, zero, suc, ◌+◌, ◌-◌, ◌*◌, ◌%◌, ◌≤◌, ◌<◌}
use native.Mathlib.Omega.{arith}
use lib.ListN.{length, get_or, take, drop, length-drop, take-append-drop}
use lib.Seq.{drop-cons, drop-drop, take-take, take_all, get_or-drop, length-take-le}
use lib.Dec.{eqb}
use borrow.Author.Tests.{eq-eqb, eqb-true}
use Rattle.columns.specs.Texts.{same}
use Rattle.columns.proofs.SameLaws.{same_refl, same_true}
use Rattle.words.specs.Words.{word_of, word_at}

-- Each element is a byte.
abbrev pub Bytes : List ℕ → Type 0
Bytes s = (i : ℕ) → get_or s i 0 < 256

low_byte : (x y m n : ℕ) → x < 256 → y < 256 → x + 256 * m ≡ y + 256 * n → (x ≡ y) × (m ≡ n)
low_byte x y m n hx hy e = (omega arith, omega arith)

-- Equal numbers of as many bytes are equal bytes.
pub word_same : (a b : List ℕ) → length a ≡ length b → Bytes a → Bytes b → word_of a ≡ word_of b → a ≡ b
word_same [] [] l ha hb e = refl
word_same [] (y ∷ b) l ha hb e = absurd (omega arith)
word_same (x ∷ a) [] l ha hb e = absurd (omega arith)
word_same (x ∷ a) (y ∷ b) l ha hb e =
    let h = low_byte x y (word_of a) (word_of b) (ha 0) (hb 0) e in
    let t : a ≡ b = word_same a b (omega arith) (λ i. ha (suc i)) (λ i. hb (suc i)) h.1 in
    let d : x ≡ y = h.0 in
    cc

-- A text from a place on, byte by byte.
pub take_next : (s : List ℕ) (a b n : ℕ) → b ≡ suc a → a < length s → take (suc n) (drop a s) ≡ get_or s a 0 ∷ take n (drop b s)
take_next s a b n e h = rw (drop-cons s a 0 h, e)

pub word_bytes : (s : List ℕ) (at : ℕ) → at + 8 ≤ length s
    → word_at s at
    ≡ get_or s at 0 + 256 * get_or s (at + 1) 0 + 65536 * get_or s (at + 2) 0 + 16777216 * get_or s (at + 3) 0 + 4294967296 * get_or s (at + 4) 0
    + 1099511627776 * get_or s (at + 5) 0 + 281474976710656 * get_or s (at + 6) 0 + 72057594037927936 * get_or s (at + 7) 0
unfolding word_at
word_bytes s at h =
    rw (
      take_next s at (at + 1) 7 (omega arith) (omega arith),
      take_next s (at + 1) (at + 2) 6 (omega arith) (omega arith),
      take_next s (at + 2) (at + 3) 5 (omega arith) (omega arith),
      take_next s (at + 3) (at + 4) 4 (omega arith) (omega arith),
      take_next s (at + 4) (at + 5) 3 (omega arith) (omega arith),
      take_next s (at + 5) (at + 6) 2 (omega arith) (omega arith),
      take_next s (at + 6) (at + 7) 1 (omega arith) (omega arith),
      take_next s (at + 7) (at + 8) 0 (omega arith) (omega arith),
    )
    (omega arith)

-- Some bytes of bytes are bytes.
pub bytes_take : (n : ℕ) (s : List ℕ) → Bytes s → Bytes (take n s)
bytes_take zero s h i = omega arith
bytes_take (suc n) [] h i = omega arith
bytes_take (suc n) (x ∷ s) h zero = h 0
bytes_take (suc n) (x ∷ s) h (suc i) = bytes_take n s (λ j. h (suc j)) i

pub bytes_drop : (n : ℕ) (s : List ℕ) → Bytes s → Bytes (drop n s)
bytes_drop n s h i = rw get_or-drop (h (n + i))

-- A test that is true just where two texts are equal is `same`.
pub is_same : (a b : List ℕ) (r : Bool) → (r ≡ true → a ≡ b) → (a ≡ b → r ≡ true) → r ≡ same a b
is_same a b true there back = let e : a ≡ b = there refl in rw e (sym (same_refl b))
is_same a b false there back = sym (not_same (same a b) refl)
  where
    not_same : (t : Bool) → same a b ≡ t → t ≡ false
    not_same true e = sym (back (same_true a b e))
    not_same false e = refl

-- Texts of which some number differs are not the same.
pub other_number : (f : List ℕ → ℕ) (a b : List ℕ) → (f a ≡ f b → ⊥) → false ≡ same a b
other_number f a b n = is_same a b false (λ e. absurd (false≢true e)) (λ e. absurd (n (ap f e)))

-- Two texts of one length, 8 to 16 bytes, with the same first and last eight bytes.
module _ (a b : List ℕ) (l : length a ≡ length b) (short : length a ≤ 16) (ha : Bytes a) (hb : Bytes b) where
  part : (at : ℕ) → at + 8 ≤ length a → word_at a at ≡ word_at b at → take 8 (drop at a) ≡ take 8 (drop at b)
  unfolding word_at
  part at room e =
      word_same (take 8 (drop at a)) (take 8 (drop at b)) (eight a room ∙ sym (eight b (omega arith)))
      (bytes_take 8 (drop at a) (bytes_drop at a ha)) (bytes_take 8 (drop at b) (bytes_drop at b hb)) e
    where
      eight : (s : List ℕ) → at + 8 ≤ length s → length (take 8 (drop at s)) ≡ 8
      eight s h = length-take-le 8 (drop at s) (rw length-drop (omega arith))

  both_words : 8 ≤ length a → word_at a (length a - 8) ≡ word_at b (length a - 8) → word_at a 0 ≡ word_at b 0 → a ≡ b
  both_words long el e0 =
      let w : ℕ = length a - 8 in
      let la : length (drop w a) ≤ 8 = rw length-drop (omega arith) in
      let lb : length (drop w b) ≤ 8 = rw length-drop (omega arith) in
      let tail : drop w a ≡ drop w b = sym (take_all 8 (drop w a) la) ∙ part w (omega arith) el ∙ take_all 8 (drop w b) lb in
      let head : take w a ≡ take w b = sym (take-take w 8 a (omega arith)) ∙ ap (take w) (part 0 (omega arith) e0) ∙ take-take w 8 b (omega arith) in
      sym (take-append-drop w a) ∙ rw (head, tail) (take-append-drop w b)

  pub same_words : 8 ≤ length a → (x y : ℕ) → x ≡ word_at a 0 → y ≡ word_at b 0 → word_at a (length a - 8) ≡ word_at b (length a - 8) → eqb x y ≡ same a b
  same_words long x y ex ey el =
      is_same a b (eqb x y)
      (λ t. both_words long el (sym ex ∙ eqb-true x y t ∙ ey)) (λ e. eq-eqb x y (ex ∙ ap (λ s. word_at s 0) e ∙ sym ey))

-- Equal numbers of as many bytes tell that two texts are the same.
pub word_eqb : (a b : List ℕ) → length a ≡ length b → Bytes a → Bytes b → eqb (word_of a) (word_of b) ≡ same a b
word_eqb a b l ha hb =
    is_same a b (eqb (word_of a) (word_of b)) (λ t. word_same a b l ha hb (eqb-true (word_of a) (word_of b) t)) (λ e. eq-eqb (word_of a) (word_of b) (ap word_of e))

-- a part of the front
pub part_of_front : (n i w : ℕ) (s : List ℕ) → i + n ≤ w → take n (drop i (take w s)) ≡ take n (drop i s)
part_of_front n zero w s h = take-take n w s (omega arith)
part_of_front n (suc i) zero s h = absurd (omega arith)
part_of_front n (suc i) (suc w) [] h = refl
part_of_front n (suc i) (suc w) (x ∷ s) h = part_of_front n i w s (omega arith)

-- A word inside a part of a text is one of the text.
pub word_inside : (s : List ℕ) (a w at : ℕ) → at + 8 ≤ w → word_at (take w (drop a s)) at ≡ word_at s (a + at)
unfolding word_at
word_inside s a w at h = rw (part_of_front 8 at w (drop a s) h, drop-drop at a s)

-- Six bytes, one by one,
six_bytes : (s : List ℕ) (at : ℕ) → at + 6 ≤ length s
    → word_of (take 6 (drop at s))
    ≡ get_or s at 0 + 256 * get_or s (at + 1) 0 + 65536 * get_or s (at + 2) 0 + 16777216 * get_or s (at + 3) 0 + 4294967296 * get_or s (at + 4) 0 + 1099511627776 * get_or s (at + 5) 0
six_bytes s at h =
    rw (
      take_next s at (at + 1) 5 (omega arith) (omega arith),
      take_next s (at + 1) (at + 2) 4 (omega arith) (omega arith),
      take_next s (at + 2) (at + 3) 3 (omega arith) (omega arith),
      take_next s (at + 3) (at + 4) 2 (omega arith) (omega arith),
      take_next s (at + 4) (at + 5) 1 (omega arith) (omega arith),
      take_next s (at + 5) (at + 6) 0 (omega arith) (omega arith),
    )
    (omega arith)

pub six_bytes_in_all : (s : List ℕ) → length s ≡ 6
    → word_of s ≡ get_or s 0 0 + 256 * get_or s 1 0 + 65536 * get_or s 2 0 + 16777216 * get_or s 3 0 + 4294967296 * get_or s 4 0 + 1099511627776 * get_or s 5 0
six_bytes_in_all s h = ap word_of (sym (take_all 6 s (omega arith))) ∙ six_bytes s 0 (omega arith)

-- are the low end of eight.
pub six_of_eight : (s : List ℕ) (at : ℕ) → at + 8 ≤ length s → Bytes s → word_at s at % 281474976710656 ≡ word_of (take 6 (drop at s))
six_of_eight s at h b =
    rw (word_bytes s at h, six_bytes s at (omega arith))
    (low_six (get_or s at 0) (get_or s (at + 1) 0) (get_or s (at + 2) 0) (get_or s (at + 3) 0) (get_or s (at + 4) 0) (get_or s (at + 5) 0) (get_or s (at + 6) 0) (get_or s (at + 7) 0) (b at) (b (at + 1)) (b (at + 2)) (b (at + 3)) (b (at + 4)) (b (at + 5)))
  where
    low_six : (a b c d e f g h : ℕ) → a < 256 → b < 256 → c < 256 → d < 256 → e < 256 → f < 256
        → (a + 256 * b + 65536 * c + 16777216 * d + 4294967296 * e + 1099511627776 * f + 281474976710656 * g + 72057594037927936 * h) % 281474976710656
        ≡ a + 256 * b + 65536 * c + 16777216 * d + 4294967296 * e + 1099511627776 * f
    low_six a b c d e f g h la lb lc ld le lf = omega arith
