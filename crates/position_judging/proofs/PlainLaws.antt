-- 4C in its one spelling: digits in all columns of its numbers, minutes and seconds from 00 to 59, and fewer degrees than the most. It keeps its rule.
use mathlib.Core.Path.{◌≡◌, sym, ap, ◌∙◌}
use mathlib.Core.Logic.{◌⊎◌, inl, inr, ⊎_elim}
use mathlib.Core.Bool.{Bool, true, false, ◌&&◌, ◌||◌}
use mathlib.Core.List.{List, [], ◌∷◌}
use Prim.Native.Nat.{ℕ, suc, ◌+◌, ◌-◌, ◌*◌, ◌≤◌, ◌<◌}
use Prim.Native.String.{String}
use native.Mathlib.Omega.{arith}
use native.Mathlib.Numerals.{add-one}
use lib.ListN.{length, get_or, take, drop, length-drop}
use lib.Seq.{length-take-le, drop-cons, get_or-take, get_or-drop}
use borrow.Author.Tests.{eq-eqb, le-leb}
use Rattle.columns.specs.Sets.{among, is_digit}
use Rattle.columns.specs.Texts.{bytes, every, each}
use Rattle.columns.specs.Frames.{frames}
use Rattle.columns.proofs.TextLaws.{and_split}
use Rattle.columns.proofs.PlaceLaws.{framed_at}
use Rattle.numerals.specs.Numbers.{number_from, whole_of}
use Rattle.numerals.proofs.NumberLaws.{whole_plain}
use Rattle.positions.specs.Positions.{arc_seconds, arc_good, position_good}
use Rattle.std.specs.Prelude.{Some, Ok}

-- The byte at i is from low up to high.
abbrev pub Holds : ℕ → ℕ → List ℕ → ℕ → Type 0
Holds low high p i = (low ≤ get_or p i 0) × (get_or p i 0 ≤ high)

-- a byte from 0 to 9 is a digit
digit_in : (c : ℕ) → 48 ≤ c → c ≤ 57 → is_digit c ≡ true
digit_in c l h = rw (le-leb 48 c l, le-leb c 57 h)

-- two columns of digits from i on
pub two_digits : (p : List ℕ) (i : ℕ) → i + 2 ≤ length p → Holds 48 57 p i → Holds 48 57 p (i + 1)
    → whole_of (take 2 (drop i p)) ≡ Ok (Some ((get_or p i 0 - 48) * 10 + (get_or p (i + 1) 0 - 48)))
unfolding every number_from
two_digits p i h x y =
    let x' = get_or p i 0 in
    let y' = get_or p (i + 1) 0 in
    let there : drop i p ≡ x' ∷ y' ∷ drop (suc (suc i)) p = drop-cons p i 0 (omega arith) ∙ ap (λ (l : List ℕ). x' ∷ l) (rw (add-one i) (drop-cons p (suc i) 0 (omega arith))) in
    rw there
    (whole_plain (x' ∷ y' ∷ []) (rw (digit_in x' x.0 x.1, digit_in y' y.0 y.1)) (omega arith) (omega arith)
    ∙ ap (λ (n : ℕ). Ok (Some n)) (omega arith))

-- three columns of digits stand first
pub three_digits : (p : List ℕ) → 3 ≤ length p → Holds 48 57 p 0 → Holds 48 57 p 1 → Holds 48 57 p 2
    → whole_of (take 3 p) ≡ Ok (Some ((get_or p 0 0 - 48) * 100 + (get_or p 1 0 - 48) * 10 + (get_or p 2 0 - 48)))
unfolding every number_from
three_digits p h x y z =
    let x' = get_or p 0 0 in
    let y' = get_or p 1 0 in
    let z' = get_or p 2 0 in
    let there : p ≡ x' ∷ y' ∷ z' ∷ drop 3 p = drop-cons p 0 0 (omega arith) ∙ ap (λ (l : List ℕ). x' ∷ l) (drop-cons p 1 0 (omega arith) ∙ ap (λ (l : List ℕ). y' ∷ l) (drop-cons p 2 0 (omega arith))) in
    ap (λ (l : List ℕ). whole_of (take 3 l)) there
    ∙ whole_plain (x' ∷ y' ∷ z' ∷ []) (rw (digit_in x' x.0 x.1, digit_in y' y.0 y.1, digit_in z' z.0 z.1)) (omega arith) (omega arith)
    ∙ ap (λ (n : ℕ). Ok (Some n)) (omega arith)

-- one half with n degrees
pub plain_half : (d : ℕ) (letters : String) (degrees n : ℕ) (p : List ℕ) → d + 5 ≤ length p → whole_of (take d p) ≡ Ok (Some n) → n < degrees → among letters (get_or p d 0) ≡ true
    → Holds 48 53 p (d + 1) → Holds 48 57 p (d + 1 + 1) → Holds 48 53 p (d + 3) → Holds 48 57 p (d + 3 + 1) → arc_good d letters degrees p ≡ true
unfolding arc_good arc_seconds
plain_half d letters degrees n p l e h a m₁ m₂ s₁ s₂ =
    let m = (get_or p (d + 1) 0 - 48) * 10 + (get_or p (d + 1 + 1) 0 - 48) in
    let s = (get_or p (d + 3) 0 - 48) * 10 + (get_or p (d + 3 + 1) 0 - 48) in
    let minutes = two_digits p (d + 1) (omega arith) (m₁.0, omega (arith, m₁.1)) m₂ in
    let seconds = two_digits p (d + 3) (omega arith) (s₁.0, omega (arith, s₁.1)) s₂ in
    let m-few : m ≤ 59 = omega (arith, m₁.1, m₂.1) in
    let s-few : s ≤ 59 = omega (arith, s₁.1, s₂.1) in
    rw (e, minutes, seconds, a, le-leb n degrees (omega arith), le-leb m 59 m-few, le-leb s 59 s-few, le-leb (3600 * n + 60 * m + s) (3600 * degrees) (omega arith))

-- the first half, between one lowest and one highest spelling: below a hundred degrees, or from there on below 180
module _ (p : List ℕ) (l : length p ≡ 8) (a : among "EW" (get_or p 3 0) ≡ true) where
  pub plain_east : (x y z : ℕ) → 48 ≤ x → z ≤ 57 → (z - 48) * 100 + (y - 48) * 10 + 9 < 180 → y ≤ 57
      → each (frames (x ∷ 48 ∷ 48 ∷ bytes "E0000") (z ∷ y ∷ 57 ∷ bytes "W5959")) p ≡ true → arc_good 3 "EW" 180 p ≡ true
  plain_east x y z lx hz few hy e =
      let at = framed_at (x ∷ 48 ∷ 48 ∷ bytes "E0000") (z ∷ y ∷ 57 ∷ bytes "W5959") p e in
      let d₀ : Holds x z p 0 = at 0 (omega arith) in
      let d₁ : Holds 48 y p 1 = at 1 (omega arith) in
      let d₂ : Holds 48 57 p 2 = at 2 (omega arith) in
      plain_half 3 "EW" 180 ((get_or p 0 0 - 48) * 100 + (get_or p 1 0 - 48) * 10 + (get_or p 2 0 - 48)) p (omega arith)
      (three_digits p (omega arith) (omega (arith, d₀.0), omega (arith, d₀.1)) (d₁.0, omega (arith, d₁.1)) d₂)
      (omega (arith, d₀.1, d₁.1, d₂.1)) a (at 4 (omega arith)) (at 5 (omega arith)) (at 6 (omega arith)) (at 7 (omega arith))

-- the second half, whose seven columns are the last of eight
shifted : (s : List ℕ) (i : ℕ) → i < 7 → get_or (take 8 (drop 7 s)) (i + 1) 0 ≡ get_or (drop 8 s) i 0
shifted s i h = get_or-take 8 (drop 7 s) (i + 1) 0 (omega arith) ∙ get_or-drop 7 s (i + 1) 0 ∙ ap (λ (k : ℕ). get_or s k 0) (omega arith) ∙ sym (get_or-drop 8 s i 0)

pub plain_north : (s : List ℕ) → length s ≡ 15 → among "NS" (get_or s 10 0) ≡ true → each (frames (bytes "000N0000") (bytes "989S5959")) (take 8 (drop 7 s)) ≡ true → arc_good 2 "NS" 90 (drop 8 s) ≡ true
plain_north s l a e =
    let q = drop 8 s in
    let w = take 8 (drop 7 s) in
    let long : length q ≡ 7 = simp length-drop (omega arith) in
    let wide : length w ≡ 8 = length-take-le 8 (drop 7 s) (simp length-drop (omega arith)) in
    let at = framed_at (bytes "000N0000") (bytes "989S5959") w e in
    let d₀ : Holds 48 56 q 0 = rw (shifted s 0 (omega arith)) at (at 1 (omega arith)) in
    let d₁ : Holds 48 57 q 1 = rw (shifted s 1 (omega arith)) at (at 2 (omega arith)) in
    let m₀ : Holds 48 53 q 3 = rw (shifted s 3 (omega arith)) at (at 4 (omega arith)) in
    let m₁ : Holds 48 57 q 4 = rw (shifted s 4 (omega arith)) at (at 5 (omega arith)) in
    let s₀ : Holds 48 53 q 5 = rw (shifted s 5 (omega arith)) at (at 6 (omega arith)) in
    let s₁ : Holds 48 57 q 6 = rw (shifted s 6 (omega arith)) at (at 7 (omega arith)) in
    plain_half 2 "NS" 90 ((get_or q 0 0 - 48) * 10 + (get_or q 1 0 - 48)) q (omega arith)
    (two_digits q 0 (omega arith) (d₀.0, omega (arith, d₀.1)) d₁)
    (omega (arith, d₀.1, d₁.1)) (rw (get_or-drop 8 s 2 0) a) m₀ m₁ s₀ s₁

-- one of two tests passed
or_split : (a b : Bool) → (a || b) ≡ true → (a ≡ true) ⊎ (b ≡ true)
or_split true b e = inl e
or_split false b e = inr e

-- so 4C keeps its rule
pub plain_place : (s : List ℕ) → length s ≡ 15
    → (((among "EW" (get_or s 3 0) && among "NS" (get_or s 10 0)) && (each (frames (bytes "000E0000") (bytes "099W5959")) (take 8 s) || each (frames (bytes "100E0000") (bytes "179W5959")) (take 8 s)))
    && each (frames (bytes "000N0000") (bytes "989S5959")) (take 8 (drop 7 s))) ≡ true
    → position_good s ≡ true
unfolding position_good
plain_place s l e =
    let low = each (frames (bytes "000E0000") (bytes "099W5959")) (take 8 s) in
    let high = each (frames (bytes "100E0000") (bytes "179W5959")) (take 8 s) in
    let t = and_split ((among "EW" (get_or s 3 0) && among "NS" (get_or s 10 0)) && (low || high)) (each (frames (bytes "000N0000") (bytes "989S5959")) (take 8 (drop 7 s))) e in
    let u = and_split (among "EW" (get_or s 3 0) && among "NS" (get_or s 10 0)) (low || high) t.0 in
    let letters = and_split (among "EW" (get_or s 3 0)) (among "NS" (get_or s 10 0)) u.0 in
    let wide : length (take 8 s) ≡ 8 = length-take-le 8 s (omega arith) in
    let letter : among "EW" (get_or (take 8 s) 3 0) ≡ true = rw (get_or-take 8 s 3 0 (omega arith)) letters.0 in
    let east : arc_good 3 "EW" 180 (take 8 s) ≡ true =
    ⊎_elim
    (plain_east (take 8 s) wide letter 48 57 48 (omega arith) (omega arith) (omega arith) (omega arith))
    (plain_east (take 8 s) wide letter 49 55 49 (omega arith) (omega arith) (omega arith) (omega arith))
    (or_split low high u.1) in
    rw (eq-eqb (length s) 15 l, east, plain_north s l letters.1 t.1)
