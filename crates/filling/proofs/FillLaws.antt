-- A text copied into columns to their end, and the fields of a line put into a record one after the other.
use mathlib.Core.Path.{◌≡◌, refl, sym, ap, ◌∙◌}
use mathlib.Core.Bool.{true, false}
use mathlib.Core.List.{List, [], ◌∷◌, ◌++◌, append_assoc, append-nil}
use Prim.Native.Nat.{ℕ, suc, ◌+◌, ◌-◌, ◌≤◌, ◌<◌}
use native.Mathlib.Omega.{arith}
use native.Mathlib.Nat.{sub-zero, add-sub_cancel_left}
use native.Mathlib.Numerals.{add-one}
use lib.ListN.{length, get_or, take, drop, length-append, length-drop, drop_of_length-le}
use lib.Seq.{take_at, drop-cons, drop-drop, length-take-le, take_all}
use borrow.Author.Tests.{le-leb, lt-leb}
use Rattle.columns.proofs.TextLaws.{from_on}
use Rattle.basics.specs.Fields.{joined}
use Rattle.semicolons.specs.Fields.{padded_field, padded_fields, none_longer}
use Rattle.semicolons.specs.Lines.{before, behind, split}
use Rattle.semicolons.specs.Marks.{Ends}
use Rattle.semicolons.specs.declared.Side.{Side}
use Rattle.semicolons.specs.declared.Side.TheVariants as side
use Rattle.semicolons.proofs.WidthLaws.{padded_length, columns_of}
use Rattle.padding.proofs.PutLaws.{padded_full}

-- Columns that a text was copied into to their end hold it.
pub full_copied : (s : Side) (text columns : List ℕ) (n w : ℕ) → length columns ≡ w → length columns ≤ n → n ≤ length columns → n ≤ length text → take n columns ≡ take n text → columns ≡ padded_field s w (take n text)
full_copied s text columns n w e long short inside same =
    sym (take_all n columns long) ∙ same ∙ sym (padded_full s w (take n text) (length-take-le n text inside ∙ omega (arith, e)))

-- ---- fields of a line, put into a record one after the other

-- So many fields of a line stand in the first columns of a record, and the others are still to be put behind them.
pub record Filled (ss : List Side) (qs : List (ℕ × ℕ)) (line rec : List ℕ) (k at column : ℕ) : Type 0 where
  pub inside : at ≤ length line
  pub some : k ≤ length qs
  pub room : column + columns_of (drop k qs) ≡ length rec
  pub fit : none_longer qs (split (length qs) line) ≡ none_longer (drop k qs) (split (length qs - k) (drop at line))
  pub is : joined (padded_fields ss qs (split (length qs) line)) ≡ take column rec ++ joined (padded_fields (drop k ss) (drop k qs) (split (length qs - k) (drop at line)))

-- the first of the fields that are still to come
module _ (q : ℕ × ℕ) (qs : List (ℕ × ℕ)) (n : ℕ) (t : List ℕ) where
  -- fits,
  fits_here : (next : List ℕ) → length (before t) ≤ q.1 → next ≡ behind t → none_longer (q ∷ qs) (split (suc n) t) ≡ none_longer qs (split n next)
  unfolding split
  fits_here next h e = rw (le-leb (length (before t)) q.1 h, e)

  -- or is too long,
  too_long : q.1 < length (before t) → none_longer (q ∷ qs) (split (suc n) t) ≡ false
  unfolding split
  too_long h = rw (lt-leb (length (before t)) q.1 h)

  -- and stands before the others.
  field_first : (s : Side) (ss : List Side) (next : List ℕ) → next ≡ behind t → joined (padded_fields (s ∷ ss) (q ∷ qs) (split (suc n) t)) ≡ padded_field s q.1 (before t) ++ joined (padded_fields ss qs (split n next))
  unfolding split
  field_first s ss next e = rw e

-- At the start nothing is put in.
pub none_filled : (ss : List Side) (qs : List (ℕ × ℕ)) (line rec : List ℕ) → length rec ≡ columns_of qs → Filled ss qs line rec 0 0 0
none_filled ss qs line rec e =
    record {
      inside = omega arith;
      some = omega arith;
      room = omega (arith, e);
      fit = rw (sub-zero (length qs));
      is = rw (sub-zero (length qs));
    }

module _ (ss : List Side) (qs : List (ℕ × ℕ)) (line rec : List ℕ) (k at column : ℕ) (f : Filled ss qs line rec k at column) (l : length ss ≡ length qs) where
  -- At the end all fields fit,
  pub all_fit : length qs ≤ k → none_longer qs (split (length qs) line) ≡ true
  all_fit h = f.fit ∙ rw (drop_of_length-le qs {i = k} h)

  -- and make the record.
  pub all_filled : length qs ≤ k → rec ≡ joined (padded_fields ss qs (split (length qs) line))
  all_filled h =
      let none : drop k qs ≡ [] = drop_of_length-le qs {i = k} h in
      let whole : column + columns_of (drop k qs) ≡ length rec = f.room in
      let end : length rec ≤ column = omega (arith, rw none at whole) in
      sym (f.is ∙ rw (drop_of_length-le ss {i = k} (omega arith), take_all column rec end) (append-nil rec))

  module _ (h : k < length qs) where
    -- the next place,
    abbrev place : ℕ × ℕ
    place = get_or qs k (0, 0)

    -- with those behind it,
    next_place : drop k qs ≡ place ∷ drop (suc k) qs
    next_place = drop-cons qs k (0, 0) h

    -- and how many they are,
    left : length qs - k ≡ suc (length qs - suc k)
    left = omega arith

    -- has its columns in the record.
    pub next_room : column + place.1 ≤ length rec
    next_room =
        let whole : column + columns_of (drop k qs) ≡ length rec = f.room in
        omega (arith, rw next_place at whole)

    -- A field that is too long for it ends it all;
    pub field_too_long : place.1 < length (before (drop at line)) → none_longer qs (split (length qs) line) ≡ false
    field_too_long long = f.fit ∙ rw (next_place, left) (too_long place (drop (suc k) qs) (length qs - suc k) (drop at line) long)

    -- any other is put there, padded.
    pub next_filled : (at' : ℕ) (rec' : List ℕ) → length (before (drop at line)) ≤ place.1 → at' ≤ length line → drop at' line ≡ behind (drop at line)
        → rec' ≡ take column rec ++ (padded_field (get_or ss k side.Left) place.1 (before (drop at line)) ++ drop (column + place.1) rec)
        → Filled ss qs line rec' (k + 1) at' (column + place.1)
    next_filled at' rec' short inside' next e =
        let w = place.1 in
        let t = drop at line in
        let s = get_or ss k side.Left in
        let p = padded_field s w (before t) in
        let rest = drop (column + w) rec in
        let n = length qs - suc k in
        let end : column + w ≤ length rec = next_room in
        let wide : length p ≡ w = padded_length s w (before t) short in
        let front-size : length (take column rec ++ p) ≡ column + w = length-append (take column rec) p ∙ rw (wide, length-take-le column rec (omega arith)) in
        let grouped : rec' ≡ (take column rec ++ p) ++ rest = e ∙ sym (append_assoc (take column rec) p rest) in
        let front : take (column + w) rec' ≡ take column rec ++ p = ap (take (column + w)) grouped ∙ take_at (take column rec ++ p) rest (column + w) front-size in
        let size : length rec' ≡ length rec = ap length grouped ∙ length-append (take column rec ++ p) rest ∙ rw (front-size, length-drop (column + w) rec) (omega arith) in
        let whole : column + columns_of (drop k qs) ≡ length rec = f.room in
        let next-side : drop k ss ≡ s ∷ drop (suc k) ss = drop-cons ss k side.Left (omega arith) in
        let later = joined (padded_fields (drop (suc k) ss) (drop (suc k) qs) (split n (drop at' line))) in
        let first : joined (padded_fields (drop k ss) (drop k qs) (split (length qs - k) t)) ≡ p ++ later = rw (next-side, next_place, left) (field_first place (drop (suc k) qs) n t s (drop (suc k) ss) (drop at' line) next) in
        rw (add-one k)
        record {
          inside = inside';
          some = h;
          room = omega (arith, rw next_place at whole, size);
          fit = f.fit ∙ rw (next_place, left) (fits_here place (drop (suc k) qs) n t (drop at' line) short next);
          is = f.is ∙ ap (λ (l : List ℕ). take column rec ++ l) first ∙ sym (append_assoc (take column rec) p later) ∙ ap (λ (l : List ℕ). l ++ later) (sym front);
        }

    -- So it is with a part of the record that was written over.
    pub part_filled : (at' w : ℕ) (s : Side) (field part : List ℕ) → w ≡ place.1 → s ≡ get_or ss k side.Left → field ≡ before (drop at line) → length field ≤ w
        → at' ≤ length line → drop at' line ≡ behind (drop at line)
        → part ≡ padded_field s (length (take (column + w - column) (drop column rec))) field
        → Filled ss qs line (take column rec ++ (part ++ drop (column + w - column) (drop column rec))) (k + 1) at' (column + w)
    part_filled at' w s field part ew es ef short inside' next ep =
        let end : column + w ≤ length rec = rw ew next_room in
        let m : column + w - column ≡ w = add-sub_cancel_left column w in
        let wide : length (take w (drop column rec)) ≡ w = length-take-le w (drop column rec) (omega (arith, length-drop column rec)) in
        let same : part ≡ padded_field (get_or ss k side.Left) place.1 (before (drop at line)) = ep ∙ rw (m, wide, es, ef, ew) in
        let short' : length (before (drop at line)) ≤ place.1 = rw (← ef, ← ew) short in
        rw (m, drop-drop w column rec, same, ew) (next_filled at' _ short' inside' next refl)

-- ---- the field that begins at a place of a line, put into a part of a record

module _ (line rec : List ℕ) (at column w : ℕ) (inside : at ≤ length line) (room : column + w ≤ length rec) where
  -- what is left of the line, and the part
  abbrev text : List ℕ
  text = take (length line - at) (drop at line)

  abbrev slot : List ℕ
  slot = take (column + w - column) (drop column rec)

  slot_wide : length slot ≡ w
  slot_wide = rw (add-sub_cancel_left column w) (length-take-le w (drop column rec) (omega (arith, length-drop column rec)))

  -- One that is too long is so for the columns,
  pub long_there : (n : ℕ) → w < n → (length slot < n → length slot < length (before text)) → w < length (before (drop at line))
  long_there n h f = rw (slot_wide, from_on line at) at (f (rw slot_wide h))

  -- and one that fits
  module _ (s : Side) (part : List ℕ) (n : ℕ) (short : n ≤ w) (f : n ≤ length slot → Ends text n × (part ≡ padded_field s (length slot) (take n text))) where
    put : Ends (drop at line) n × (part ≡ padded_field s (length slot) (take n (drop at line)))
    put = rw (from_on line at) at (f (rw slot_wide short))

    -- ends inside the line,
    pub ends_inside : at + n ≤ length line
    ends_inside = omega (arith, put.0.0, length-drop at line)

    -- is no longer than its columns,
    pub short_there : length (before (drop at line)) ≤ w
    short_there = rw (put.0.1, length-take-le n (drop at line) put.0.0) short

    -- has the next one behind it,
    pub next_there : drop (at + n + 1) line ≡ behind (drop at line)
    next_there =
        let sum : at + (n + 1) ≡ at + n + 1 = omega arith in
        ap (λ (k : ℕ). drop k line) (sym sum) ∙ sym (drop-drop (n + 1) at line) ∙ sym put.0.2

    -- and stands padded in the part.
    pub padded_there : part ≡ padded_field s (length slot) (before (drop at line))
    padded_there = put.1 ∙ ap (padded_field s (length slot)) (sym put.0.1)
