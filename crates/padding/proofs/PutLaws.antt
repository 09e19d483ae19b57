-- A text put into lent bytes, a field put into blank columns, and the columns of a field read from a table of widths.
use mathlib.Core.Path.{◌≡◌, refl, sym, ap, ◌∙◌}
use mathlib.Core.Bool.{true, cond}
use mathlib.Core.List.{List, [], ◌∷◌, ◌++◌, append-nil}
use Prim.Native.Nat.{ℕ, zero, suc, ◌+◌, ◌-◌, ◌≤◌, ◌<◌}
use native.Mathlib.Omega.{arith}
use native.Mathlib.Nat.{sub_self, zero-add, add-sub_cancel_left}
use lib.Dec.{ltb, eqb}
use lib.ListN.{length, get_or, take, drop, replicate, length-drop, length-replicate, replicate-append-replicate}
use lib.Seq.{take_at, drop_at, drop-drop, length-take-le}
use borrow.Author.Tests.{eq-eqb, ltb-true}
use Rattle.columns.specs.Texts.{every}
use Rattle.columns.proofs.TextLaws.{and_split}
use Rattle.semicolons.specs.Fields.{missing, padded_field, spaces_before}
use Rattle.semicolons.specs.declared.Side.{Side}
use Rattle.semicolons.specs.declared.Side.TheVariants as side

-- So many spaces,
abbrev spaces : ℕ → List ℕ
spaces n = replicate n 32

-- in two parts,
spaces-split : (a b : ℕ) → spaces (a + b) ≡ spaces a ++ spaces b
spaces-split a b = sym (replicate-append-replicate {A = ℕ} a b 32)

-- of which the first
pub take-spaces : (a w : ℕ) → a ≤ w → take a (spaces w) ≡ spaces a
take-spaces a w h =
    let e : w ≡ a + (w - a) = omega arith in
    ap (λ (n : ℕ). take a (spaces n)) e ∙ ap (take a) (spaces-split a (w - a)) ∙ take_at (spaces a) (spaces (w - a)) a (length-replicate {A = ℕ} a 32)

-- and the last are spaces too.
pub drop-spaces : (a w : ℕ) → a ≤ w → drop a (spaces w) ≡ spaces (w - a)
drop-spaces a w h =
    let e : w ≡ a + (w - a) = omega arith in
    ap (λ (n : ℕ). drop a (spaces n)) e ∙ ap (drop a) (spaces-split a (w - a)) ∙ drop_at (spaces a) (spaces (w - a)) a (length-replicate {A = ℕ} a 32)

-- The spaces before a field leave room for it,
pub room-behind : (s : Side) (w n : ℕ) → n ≤ w → spaces_before s w n + n ≤ w
unfolding spaces_before
room-behind side.Left w n h = omega arith
room-behind side.Right w n h = omega arith
room-behind side.Kept w n h = omega arith

-- and the padded field is the field between spaces.
pub padded_between : (s : Side) (w : ℕ) (p : List ℕ) → length p ≤ w → padded_field s w p ≡ replicate (spaces_before s w (length p)) 32 ++ (p ++ replicate (w - (spaces_before s w (length p) + length p)) 32)
unfolding padded_field spaces_before
padded_between side.Left w p h =
    let n : w - (w - length p + length p) ≡ 0 = omega arith in
    rw n (ap (λ (l : List ℕ). missing w p ++ l) (sym (append-nil p)))
padded_between side.Right w p h = rw (zero-add (length p))
padded_between side.Kept w p h = rw (zero-add (length p))

-- One that fills its columns has no space.
pub padded_full : (s : Side) (w : ℕ) (p : List ℕ) → length p ≡ w → padded_field s w p ≡ p
unfolding padded_field
padded_full side.Left w p e = rw (e, sub_self w)
padded_full side.Right w p e = rw (e, sub_self w) (append-nil p)
padded_full side.Kept w p e = rw (e, sub_self w) (append-nil p)

-- A field stands padded where it is put into blank columns.
pub put-between : (s : Side) (w a : ℕ) (p blanks : List ℕ) → length p ≤ w → a ≡ spaces_before s w (length p) → blanks ≡ replicate w 32 → take a blanks ++ (p ++ drop (a + length p) blanks) ≡ padded_field s w p
put-between s w a p blanks h e b =
    let room : a + length p ≤ w = rw e (room-behind s w (length p) h) in
    rw (b, take-spaces a w (omega arith), drop-spaces (a + length p) w room, e) (sym (padded_between s w p h))

-- how many columns each of some places has
abbrev pub widths : List (ℕ × ℕ) → List ℕ
widths [] = []
widths (q ∷ qs) = q.1 ∷ widths qs

-- The columns of the field behind k fields, read from those alone.
pub width_at : (qs : List (ℕ × ℕ)) (k : ℕ) → get_or (widths qs) k 0 ≡ (get_or qs k (0, 0)).1
width_at [] k = refl
width_at (q ∷ qs) zero = refl
width_at (q ∷ qs) (suc k) = width_at qs k

-- What is in a list whose numbers are all below a limit is below it, and so is the 0 behind its end.
pub all_below : (m : ℕ) (xs : List ℕ) (k : ℕ) → 0 < m → every (λ x. ltb x m) xs ≡ true → get_or xs k 0 < m
unfolding every
all_below m [] k h e = h
all_below m (x ∷ xs) zero h e = ltb-true x m (and_split (ltb x m) (every (λ y. ltb y m) xs) e).0
all_below m (x ∷ xs) (suc k) h e = all_below m xs k h (and_split (ltb x m) (every (λ y. ltb y m) xs) e).1

-- A part of its own length that a text was written into, put back.
pub put_back : (out text part : List ℕ) (start : ℕ) → start + length text ≤ length out
    → part ≡ cond (eqb (length (take (start + length text - start) (drop start out))) (length text)) text (take (start + length text - start) (drop start out))
    → take start out ++ (part ++ drop (start + length text - start) (drop start out)) ≡ take start out ++ (text ++ drop (start + length text) out)
put_back out text part start h e =
    let m : start + length text - start ≡ length text = add-sub_cancel_left start (length text) in
    let room : length text ≤ length (drop start out) = omega (arith, length-drop start out) in
    let l : length (take (length text) (drop start out)) ≡ length text = length-take-le (length text) (drop start out) room in
    let same : part ≡ text = e ∙ rw (m, eq-eqb (length (take (length text) (drop start out))) (length text) l) in
    rw (same, m, drop-drop (length text) start out)
