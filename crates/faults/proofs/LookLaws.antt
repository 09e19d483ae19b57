-- The fields of a line, looked at one after the other for one that is longer than its columns.
use mathlib.Core.Path.{◌≡◌, refl, sym, ap, ◌∙◌}
use mathlib.Core.List.{List, [], ◌∷◌}
use Prim.Native.Nat.{ℕ, suc, ◌+◌, ◌-◌, ◌≤◌, ◌<◌}
use native.Mathlib.Omega.{arith}
use native.Mathlib.Nat.{sub-zero}
use native.Mathlib.Numerals.{add-one, sub-one}
use lib.ListN.{length, get_or, take, drop, drop_of_length-le}
use lib.Seq.{drop-cons, length-take-le}
use borrow.Author.Tests.{le-leb, lt-leb, lt-ltb}
use Rattle.basics.specs.Fields.{place_of}
use Rattle.semicolons.specs.Lines.{before, behind, split}
use Rattle.semicolons.proofs.MarkLaws.{field_found}
use Rattle.faults.specs.Faults.{no_field, first_longer}
use Rattle.faults.specs.declared.LongField.{LongField}

-- The columns of the field behind k fields.
pub columns_of : (qs : List (ℕ × ℕ)) (k : ℕ) → (place_of qs (k + 1)).length ≡ (get_or qs k (0, 0)).1
unfolding place_of
columns_of qs k = rw (add-one k, lt-ltb 0 (suc k) (omega arith), sub-one (suc k))

-- The field that begins at a place of a line: how long it is, where it ends, and what stands behind it.
pub field_here : (line : List ℕ) (at n : ℕ) (rest : List ℕ) → at ≤ length line → rest ≡ drop at line
    → (n ≤ length rest) × (before rest ≡ take n rest) × (behind rest ≡ drop (n + 1) rest)
    → (n ≡ length (before (drop at line))) × (at + n ≤ length line) × (drop (at + n + 1) line ≡ behind (drop at line))
field_here line at n rest h e f =
    let size : length (take n rest) ≡ n = length-take-le n rest f.0 in
    let found = field_found line at n rest h e f in
    (sym size ∙ ap length found.0, rw (← size) found.1, rw (← size) found.2)

-- None of the first k fields is too long: the first that is comes from those behind them.
pub record Looked (qs : List (ℕ × ℕ)) (line : List ℕ) (k at : ℕ) : Type 0 where
  pub inside : at ≤ length line
  pub rest : first_longer 1 qs (split (length qs) line) ≡ first_longer (suc k) (drop k qs) (split (length qs - k) (drop at line))

-- At the start no field has been looked at.
pub none_looked : (qs : List (ℕ × ℕ)) (line : List ℕ) → Looked qs line 0 0
none_looked qs line = record { inside = omega arith; rest = rw (sub-zero (length qs)) }

module _ (qs : List (ℕ × ℕ)) (line : List ℕ) (k at : ℕ) (f : Looked qs line k at) where
  -- At the end none is too long.
  pub all_looked : length qs ≤ k → no_field ≡ first_longer 1 qs (split (length qs) line)
  unfolding first_longer
  all_looked h = sym (f.rest ∙ rw (drop_of_length-le qs {i = k} h))

  module _ (h : k < length qs) where
    -- the next place,
    abbrev place : ℕ × ℕ
    place = get_or qs k (0, 0)

    -- with those behind it,
    next_place : drop k qs ≡ place ∷ drop (suc k) qs
    next_place = drop-cons qs k (0, 0) h

    -- and how many they are.
    left : length qs - k ≡ suc (length qs - suc k)
    left = omega arith

    -- A field that is longer than its columns is the first one;
    pub long_here : (n w : ℕ) → n ≡ length (before (drop at line)) → w ≡ place.1 → w < n → record { number = k + 1; length = n; most = w } ≡ first_longer 1 qs (split (length qs) line)
    unfolding first_longer split
    long_here n w en ew long =
        let longer : place.1 < length (before (drop at line)) = rw (← en, ← ew) long in
        sym (f.rest ∙ rw (next_place, left, lt-leb (length (before (drop at line))) place.1 longer, ← en, ← ew, add-one k))

    -- any other is passed.
    pub look_on : (n w at' : ℕ) → n ≡ length (before (drop at line)) → w ≡ place.1 → n ≤ w → at' ≤ length line → drop at' line ≡ behind (drop at line) → Looked qs line (k + 1) at'
    unfolding first_longer split
    look_on n w at' en ew short inside' next =
        let fits : length (before (drop at line)) ≤ place.1 = rw (← en, ← ew) short in
        record {
          inside = inside';
          rest = f.rest ∙ rw (next_place, left, le-leb (length (before (drop at line))) place.1 fits, add-one k, next);
        }
