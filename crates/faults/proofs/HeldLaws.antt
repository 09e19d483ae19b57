-- The first long field of a line is found in its first bytes, as many as the longest line has.
use mathlib.Core.Path.{◌≡◌, refl, ap, ◌∙◌}
use mathlib.Core.Bool.{Bool, true, false, cond}
use mathlib.Core.List.{List, [], ◌∷◌}
use Prim.Native.Nat.{ℕ, zero, suc, ◌+◌, ◌-◌, ◌≤◌, ◌<◌}
use native.Mathlib.Omega.{arith}
use lib.Dec.{leb}
use lib.ListN.{length, take}
use lib.Seq.{take_all, length-take-le}
use borrow.Author.Tests.{lt-leb, leb-true, leb-false}
use Rattle.station.specs.Places.{station_places}
use Rattle.semicolons.specs.Lines.{is_mark, before, behind, split, line_fields, longest_line}
use Rattle.semicolons.proofs.WidthLaws.{columns_of}
use Rattle.faults.specs.Faults.{first_longer, long_field}
use Rattle.faults.specs.declared.LongField.{LongField}

-- What stands before the first mark of some first bytes,
before-take : (m : ℕ) (t : List ℕ) → before (take m t) ≡ take m (before t)
unfolding before
before-take zero t = refl
before-take (suc m) [] = refl
before-take (suc m) (c ∷ t) = by (is_mark c) (before-take m t)
  where
    by : (b : Bool) → before (take m t) ≡ take m (before t) → cond b [] (c ∷ before (take m t)) ≡ take (suc m) (cond b [] (c ∷ before t))
    by true e = refl
    by false e = ap (λ (l : List ℕ). c ∷ l) e

-- nothing of nothing
none-taken : (n : ℕ) → [] ≡ take {A = ℕ} n []
none-taken zero = refl
none-taken (suc n) = refl

-- and what stands behind it.
behind-take : (m : ℕ) (t : List ℕ) → behind (take m t) ≡ take (m - suc (length (before t))) (behind t)
unfolding before behind
behind-take zero t =
    let none : 0 - suc (length (before t)) ≡ 0 = omega arith in
    rw none
behind-take (suc m) [] = none-taken (suc m - 1)
behind-take (suc m) (c ∷ t) = by (is_mark c) (behind-take m t)
  where
    by : (b : Bool) → behind (take m t) ≡ take (m - suc (length (before t))) (behind t)
        → cond b (take m t) (behind (take m t)) ≡ take (suc m - suc (length (cond b [] (c ∷ before t)))) (cond b t (behind t))
    by true e =
        let one : suc m - 1 ≡ m = omega arith in
        rw one
    by false e =
        let less : suc m - suc (suc (length (before t))) ≡ m - suc (length (before t)) = omega arith in
        rw less e

-- Two long fields are one field, of which the first may be cut.
abbrev Cut : LongField → LongField → Type 0
Cut f g = (f.number ≡ g.number) × (f.most ≡ g.most) × (f.length ≤ g.length)

-- Some first bytes are no more than all, and more than a number that both their count and all are above.
first-bytes : (m w : ℕ) (s : List ℕ) → (length (take m s) ≤ length s) × (w < m → w < length s → w < length (take m s))
first-bytes m w s = by (leb (length s) m) refl
  where
    by : (b : Bool) → leb (length s) m ≡ b → (length (take m s) ≤ length s) × (w < m → w < length s → w < length (take m s))
    by true e = rw (take_all m s (leb-true (length s) m e)) (omega arith, λ h k. k)
    by false e =
        let size : length (take m s) ≡ m = length-take-le m s (omega (arith, leb-false (length s) m e)) in
        rw size (omega (arith, leb-false (length s) m e), λ h k. h)

-- So they have the first long field too, where they are as many as the fields have columns and marks.
held_from : (k m : ℕ) (qs : List (ℕ × ℕ)) (t : List ℕ) → columns_of qs + length qs ≤ m → Cut (first_longer k qs (split (length qs) (take m t))) (first_longer k qs (split (length qs) t))
unfolding first_longer split
held_from k m [] t h = (refl, refl, omega arith)
held_from k m (q ∷ qs) t h = by (leb (length (before t)) q.1) refl (λ n. held_from (suc k) (m - suc (length (before t))) qs (behind t) n)
  where
    by : (b : Bool) → leb (length (before t)) q.1 ≡ b
        → (columns_of qs + length qs ≤ m - suc (length (before t)) → Cut (first_longer (suc k) qs (split (length qs) (take (m - suc (length (before t))) (behind t)))) (first_longer (suc k) qs (split (length qs) (behind t))))
        → Cut (cond (leb (length (before (take m t))) q.1) (first_longer (suc k) qs (split (length qs) (behind (take m t)))) (record { number = k; length = length (before (take m t)); most = q.1 })) (cond (leb (length (before t)) q.1) (first_longer (suc k) qs (split (length qs) (behind t))) (record { number = k; length = length (before t); most = q.1 }))
    by true e later =
        let fits = leb-true (length (before t)) q.1 e in
        let whole : before (take m t) ≡ before t = before-take m t ∙ take_all m (before t) (omega (arith, h, fits)) in
        rw (whole, e, behind-take m t) (later (omega (arith, h, fits)))
    by false e later =
        let long = leb-false (length (before t)) q.1 e in
        let some = first-bytes m q.1 (before t) in
        let longer : q.1 < length (take m (before t)) = some.1 (omega (arith, h)) long in
        rw (before-take m t, lt-leb (length (take m (before t))) q.1 longer, e) (refl, refl, some.0)

-- The first bytes of a line, as many as the longest line has or more, have the same field as its first long one, with the same columns; the
-- field may be cut there.
pub held_field : (m : ℕ) (t : List ℕ) → longest_line ≤ m → ((long_field (take m t)).number ≡ (long_field t).number) × ((long_field (take m t)).most ≡ (long_field t).most) × ((long_field (take m t)).length ≤ (long_field t).length)
unfolding long_field line_fields
held_field m t h = held_from 1 m station_places t h
