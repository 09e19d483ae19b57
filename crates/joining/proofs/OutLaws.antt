-- The fields of a record put into a line one after the other, each with the mark behind it.
use mathlib.Core.Path.{◌≡◌, refl, sym, ap, ◌∙◌}
use mathlib.Core.Bool.{true, cond}
use mathlib.Core.List.{List, [], ◌∷◌, ◌++◌, append_assoc, append-nil}
use Prim.Native.Nat.{ℕ, suc, ◌+◌, ◌-◌, ◌≤◌, ◌<◌}
use native.Mathlib.Omega.{arith}
use native.Mathlib.Nat.{zero-add, add-sub_cancel_left}
use native.Mathlib.Numerals.{add-one}
use lib.Dec.{eqb}
use lib.ListN.{length, get_or, take, drop, set, length-append, length-drop, drop_of_length-le}
use lib.Seq.{take_at, drop-cons, length-take-le, take-suc-set}
use borrow.Author.Tests.{eq-eqb, ne_eqb, eqb-true}
use Rattle.columns.proofs.TextLaws.{and_split}
use Rattle.basics.specs.Fields.{piece, cut, tiles_from}
use Rattle.semicolons.specs.Fields.{trimmed_field, trimmed_fields}
use Rattle.semicolons.specs.Lines.{joined_line}
use Rattle.semicolons.specs.declared.Side.{Side}
use Rattle.semicolons.specs.declared.Side.TheVariants as side
use Rattle.semicolons.proofs.PadLaws.{goes_out}
use Rattle.semicolons.proofs.WidthLaws.{columns_of}

-- A text put in, and a mark set behind it.
pub marked_behind : (out put text : List ℕ) (at mark : ℕ) → at + length text < length out → put ≡ take at out ++ (text ++ drop (at + length text) out)
    → take (at + length text + 1) (set put (at + length text) mark) ≡ take at out ++ (text ++ (mark ∷ []))
marked_behind out put text at mark h e =
    let rest = drop (at + length text) out in
    let size : length (take at out ++ text) ≡ at + length text = length-append (take at out) text ∙ rw (length-take-le at out (omega arith)) in
    let grouped : put ≡ (take at out ++ text) ++ rest = e ∙ sym (append_assoc (take at out) text rest) in
    let front : take (at + length text) put ≡ take at out ++ text = ap (take (at + length text)) grouped ∙ take_at (take at out ++ text) rest (at + length text) size in
    let inside : at + length text < length put = omega (arith, ap length grouped, length-append (take at out ++ text) rest, size, length-drop (at + length text) out) in
    rw (add-one (at + length text)) (take-suc-set put (at + length text) mark inside ∙ ap (λ (l : List ℕ). l ++ (mark ∷ [])) front ∙ append_assoc (take at out) text (mark ∷ []))

-- The first bytes of a text, put in first.
pub first-put : (out text : List ℕ) (n : ℕ) → n ≤ length text → take 0 out ++ (take n text ++ drop (0 + length (take n text)) out) ≡ take n text ++ drop n out
first-put out text n h = rw (length-take-le n text h, zero-add n)

-- The mark behind field k of n and one.
abbrev pub mark_of : ℕ → ℕ → ℕ
mark_of k n = cond (eqb k n) 10 59

-- A line begins with its first field and the mark behind it.
line_first : (p : List ℕ) (ps : List (List ℕ)) (k n : ℕ) → k + length ps ≡ n → joined_line (p ∷ ps) ≡ p ++ (mark_of k n ∷ joined_line ps)
line_first p [] k n e =
    let last : k ≡ n = omega arith in
    rw (eq-eqb k n last)
line_first p (q ∷ ps) k n e = rw (ne_eqb k n (λ z. omega arith))

-- As many fields go out as there are places.
trimmed-count : (ss : List Side) (qs : List (ℕ × ℕ)) (r : List ℕ) → length ss ≡ length qs → length (trimmed_fields ss (cut qs r)) ≡ length qs
trimmed-count [] [] r e = refl
trimmed-count [] (q ∷ qs) r e = absurd (omega arith)
trimmed-count (s ∷ ss) [] r e = refl
trimmed-count (s ∷ ss) (q ∷ qs) r e = ap suc (trimmed-count ss qs r (omega arith))

-- So many fields of a record stand in a line, and the others are still to be put behind them.
pub record Lined (ss : List Side) (qs : List (ℕ × ℕ)) (rec out : List ℕ) (k column at : ℕ) : Type 0 where
  pub some : k ≤ length qs
  pub place : column + columns_of (drop k qs) ≡ length rec
  pub tiles : tiles_from (column + 1) (drop k qs) ≡ true
  pub room : at + columns_of (drop k qs) + length (drop k qs) ≤ length out
  pub is : joined_line (trimmed_fields ss (cut qs rec)) ≡ take at out ++ joined_line (trimmed_fields (drop k ss) (cut (drop k qs) rec))

-- At the start none does.
pub none_lined : (ss : List Side) (qs : List (ℕ × ℕ)) (rec out : List ℕ) → length rec ≡ columns_of qs → length out ≡ columns_of qs + length qs → tiles_from 1 qs ≡ true → Lined ss qs rec out 0 0 0
none_lined ss qs rec out e f t =
    record {
      some = omega arith;
      place = omega (arith, e);
      tiles = t;
      room = omega (arith, f);
      is = refl;
    }

module _ (ss : List Side) (qs : List (ℕ × ℕ)) (rec out : List ℕ) (k column at : ℕ) (f : Lined ss qs rec out k column at) (l : length ss ≡ length qs) where
  -- The line is not longer than its bytes,
  pub line_inside : at ≤ length out
  line_inside = omega (arith, f.room)

  -- and at the end all fields do.
  pub all_lined : length qs ≤ k → take at out ≡ joined_line (trimmed_fields ss (cut qs rec))
  all_lined h = sym (f.is ∙ rw (drop_of_length-le ss {i = k} (omega arith)) (append-nil (take at out)))

  module _ (h : k < length qs) where
    -- The next place,
    abbrev next : ℕ × ℕ
    next = get_or qs k (0, 0)

    -- with those behind it,
    next_place : drop k qs ≡ next ∷ drop (suc k) qs
    next_place = drop-cons qs k (0, 0) h

    -- has its columns in the record,
    pub next_inside : column + next.1 ≤ length rec
    next_inside =
        let whole : column + columns_of (drop k qs) ≡ length rec = f.place in
        omega (arith, rw next_place at whole)

    -- right behind those before it.
    tiled : (eqb next.0 (column + 1) ≡ true) × (tiles_from (column + 1 + next.1) (drop (suc k) qs) ≡ true)
    tiled =
        let t : tiles_from (column + 1) (drop k qs) ≡ true = f.tiles in
        and_split (eqb next.0 (column + 1)) (tiles_from (column + 1 + next.1) (drop (suc k) qs)) (rw next_place at t)

    module _ (w : ℕ) (s : Side) (text : List ℕ) (ew : w ≡ next.1) (es : s ≡ get_or ss k side.Left) (et : text ≡ trimmed_field s (take (column + w - column) (drop column rec))) where
      -- The field is found there,
      found : take (column + w - column) (drop column rec) ≡ piece rec next
      found =
          let first : next.0 ≡ column + 1 = eqb-true next.0 (column + 1) tiled.0 in
          let back : next.0 - 1 ≡ column = omega (arith, first) in
          rw (add-sub_cancel_left column w, ew, back)

      -- its text goes out,
      goes : text ≡ trimmed_field (get_or ss k side.Left) (piece rec next)
      goes = et ∙ rw (found, es)

      -- no longer than its columns,
      text_size : length text ≤ next.1
      text_size =
          let inside : column + w ≤ length rec = rw ew next_inside in
          let wide : length (take w (drop column rec)) ≡ w = length-take-le w (drop column rec) (omega (arith, length-drop column rec)) in
          let part : length (take (column + w - column) (drop column rec)) ≡ w = rw (add-sub_cancel_left column w) wide in
          let out' : length text ≤ length (take (column + w - column) (drop column rec)) = rw et (goes_out s (take (column + w - column) (drop column rec))) in
          omega (arith, ew, part, out')

      -- and there is room for it and the mark.
      pub mark-room : at + length text < length out
      mark-room =
          let r : at + columns_of (drop k qs) + length (drop k qs) ≤ length out = f.room in
          omega (arith, text_size, rw next_place at r)

      -- They are put there.
      pub next_lined : (out' : List ℕ) (mark n : ℕ) → mark ≡ mark_of k n → n + 1 ≡ length qs → length out' ≡ length out
          → take (at + length text + 1) out' ≡ take at out ++ (text ++ (mark ∷ []))
          → Lined ss qs rec out' (k + 1) (column + w) (at + length text + 1)
      next_lined out' mark n em en size e =
          let p = trimmed_field (get_or ss k side.Left) (piece rec next) in
          let later = trimmed_fields (drop (suc k) ss) (cut (drop (suc k) qs) rec) in
          let r : at + columns_of (drop k qs) + length (drop k qs) ≤ length out = f.room in
          let whole : column + columns_of (drop k qs) ≡ length rec = f.place in
          let next-side : drop k ss ≡ get_or ss k side.Left ∷ drop (suc k) ss = drop-cons ss k side.Left (omega arith) in
          let some_left : length (drop (suc k) ss) ≡ length (drop (suc k) qs) = length-drop (suc k) ss ∙ rw l (sym (length-drop (suc k) qs)) in
          let count : k + length later ≡ n = omega (arith, trimmed-count (drop (suc k) ss) (drop (suc k) qs) rec some_left, length-drop (suc k) qs) in
          let first : joined_line (trimmed_fields (drop k ss) (cut (drop k qs) rec)) ≡ text ++ (mark ∷ joined_line later) = rw (next-side, next_place, goes, em) (line_first p later k n count) in
          let joins : take at out ++ (text ++ (mark ∷ joined_line later)) ≡ take (at + length text + 1) out' ++ joined_line later = rw e (ap (λ (l : List ℕ). take at out ++ l) (sym (append_assoc text (mark ∷ []) (joined_line later))) ∙ sym (append_assoc (take at out) (text ++ (mark ∷ [])) (joined_line later))) in
          let column' : column + w + 1 ≡ column + 1 + next.1 = omega (arith, ew) in
          rw (add-one k)
          record {
            some = h;
            place = omega (arith, rw next_place at whole, ew);
            tiles = rw column' tiled.1;
            room = omega (arith, rw next_place at r, text_size, size);
            is = f.is ∙ ap (λ (l : List ℕ). take at out ++ l) first ∙ joins;
          }
