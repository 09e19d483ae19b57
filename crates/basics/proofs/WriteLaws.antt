-- Fields written one after the other into their columns: what is written so far stands in front of what is left.
use mathlib.Core.Path.{◌≡◌, refl, sym, ap, ◌∙◌}
use mathlib.Core.List.{List, [], ◌∷◌, ◌++◌, append_assoc, append-nil}
use mathlib.Core.Bool.{Bool, true, cond, ◌&&◌}
use Prim.Native.Nat.{ℕ, ◌+◌, ◌≤◌}
use native.Mathlib.Omega.{arith}
use lib.Dec.{eqb}
use lib.ListN.{length, take, drop, length-append, length-drop}
use lib.Seq.{take_at, drop_at, drop-drop, length-take-le, drop-length}
use borrow.Rule.Slice.PartMut.{put_mid}
use borrow.Author.Tests.{eq-eqb}
use Rattle.basics.specs.Fields.{joined}

-- pieces of two lists, joined
joined_append : (ps qs : List (List ℕ)) → joined (ps ++ qs) ≡ joined ps ++ joined qs
joined_append [] qs = refl
joined_append (p ∷ ps) qs = ap (λ (l : List ℕ). p ++ l) (joined_append ps qs) ∙ sym (append_assoc p (joined ps) (joined qs))

-- The first a columns of s hold the pieces, and the others are as they were.
pub record PiecesWritten (s : List ℕ) (pieces : List (List ℕ)) (a : ℕ) (now : List ℕ) : Type 0 where
  pub wide : length (joined pieces) ≡ a
  pub is : now ≡ joined pieces ++ drop a s

-- at the start nothing is written,
pub nothing_yet : (s : List ℕ) → PiecesWritten s [] 0 s
nothing_yet s = record { wide = refl; is = refl }

module _ {s now : List ℕ} {pieces : List (List ℕ)} {a : ℕ} (w : PiecesWritten s pieces a now) (n : ℕ) (inside : a + n ≤ length s) where
  rest : drop a now ≡ drop a s
  rest = ap (drop a) w.is ∙ drop_at (joined pieces) (drop a s) a w.wide

  -- the next n columns are n bytes long,
  pub part_wide : length (take n (drop a now)) ≡ n
  part_wide =
      let room : n ≤ length (drop a s) = simp length-drop (omega arith) in
      ap (λ (l : List ℕ). length (take n l)) rest ∙ length-take-le n (drop a s) room

  -- some pieces are written there,
  pub then_some : (qs : List (List ℕ)) {p : List ℕ} → p ≡ joined qs → length p ≡ length (take n (drop a now)) → PiecesWritten s (pieces ++ qs) (a + n) (put_mid a n now p)
  then_some qs {p} e kept =
      let size : length (joined qs) ≡ n = ap length (sym e) ∙ kept ∙ part_wide in
      let front : take a now ≡ joined pieces = ap (take a) w.is ∙ take_at (joined pieces) (drop a s) a w.wide in
      record {
        wide = ap length (joined_append pieces qs) ∙ length-append (joined pieces) (joined qs) ∙ (λ k. w.wide k + size k);
        is = (λ k. front k ++ (e k ++ drop n (rest k)))
            ∙ sym (append_assoc (joined pieces) (joined qs) (drop n (drop a s)))
            ∙ (λ k. sym (joined_append pieces qs) k ++ drop-drop n a s k);
      }

  -- or one piece,
  pub then_one : (q : List ℕ) {p : List ℕ} → p ≡ q → length p ≡ length (take n (drop a now)) → PiecesWritten s (pieces ++ (q ∷ [])) (a + n) (put_mid a n now p)
  then_one q e kept = then_some (q ∷ []) (e ∙ sym (append-nil q)) kept

  -- or one that is written only where it keeps its rule,
  pub then_fitting : (q : List ℕ) {p : List ℕ} {fits : Bool} → p ≡ cond (eqb (length (take n (drop a now))) n && fits) q (take n (drop a now)) → fits ≡ true → length p ≡ length (take n (drop a now)) → PiecesWritten s (pieces ++ (q ∷ [])) (a + n) (put_mid a n now p)
  then_fitting q e f kept = then_one q (e ∙ rw (eq-eqb (length (take n (drop a now))) n part_wide, f)) kept

  -- or a text, which is written only in as many columns as it has bytes,
  pub then_text : (q : List ℕ) {p : List ℕ} → p ≡ cond (eqb (length (take n (drop a now))) (length q)) q (take n (drop a now)) → length q ≡ n → length p ≡ length (take n (drop a now)) → PiecesWritten s (pieces ++ (q ∷ [])) (a + n) (put_mid a n now p)
  then_text q e l kept = then_one q (e ∙ rw (eq-eqb (length (take n (drop a now))) (length q) (part_wide ∙ sym l))) kept

  -- or one whose spelling goes by the columns that it has
  pub then-sized : (q : ℕ → List ℕ) {p : List ℕ} → p ≡ q (length (take n (drop a now))) → length p ≡ length (take n (drop a now)) → PiecesWritten s (pieces ++ (q n ∷ [])) (a + n) (put_mid a n now p)
  then-sized q e kept = then_one (q n) (e ∙ ap q part_wide) kept

-- and at the end the pieces are all there is.
pub all_written : {s now : List ℕ} {pieces : List (List ℕ)} {a : ℕ} → PiecesWritten s pieces a now → length s ≡ a → now ≡ joined pieces
all_written {s} {now} {pieces} {a} w e =
    w.is ∙ ap (λ (n : ℕ). joined pieces ++ drop n s) (sym e) ∙ ap (λ (l : List ℕ). joined pieces ++ l) (drop-length s) ∙ append-nil (joined pieces)
