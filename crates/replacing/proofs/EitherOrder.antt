-- Two replacements, from a file and the sheet judged from it: in either order, at one number, and of the record that stands.
use mathlib.Core.Path.{◌≡◌, refl, sym, ap, ◌∙◌}
use mathlib.Core.Bool.{Bool, true, false, cond}
use mathlib.Core.List.{List, [], ◌∷◌, ◌++◌}
use Prim.Native.Nat.{ℕ}
use lib.ListN.{length}
use borrow.Author.Tests.{eq-eqb}
use Rattle.basics.specs.Outcomes.{refusal, if_done, first_refusal, record_test, Outcome}
use Rattle.files.specs.Files.{stations, record_at, with_record, too_long, not_records}
use Rattle.basics.proofs.RefusalLaws.{done}
use Rattle.files.specs.Calls.{file_tests, number_test}
use Rattle.files.proofs.PutLaws.{Put, put-length, put_standing, put_commutes, put_absorbs}
use Rattle.forms.specs.OwnForm.{sheet_length}
use Rattle.sheet.specs.Sheets.{judged_sheet, sheet_of}
use Rattle.replacing.specs.Calls.{replace_outcome, replaced_file, replaced_sheet, after_all}
use Rattle.sheet.proofs.SheetLaws.{judged-length, judged_fits}
use Rattle.replacing.proofs.CallLaws.{allowed}
use Rattle.replacing.proofs.Demand3.{replaced_judged, after_any_run}

-- How replacing ends where the sheet is the one judged from the file: by the file's length, the number and the record's length alone.
abbrev pub judged_end : List ℕ → ℕ → List ℕ → Outcome
judged_end file k r = first_refusal (file_tests file ++ (number_test file k ∷ record_test r ∷ []))

pub judged_end_lem : (file : List ℕ) (k : ℕ) (r : List ℕ) → replace_outcome file (sheet_of file) k r ≡ judged_end file k r
unfolding replace_outcome sheet_of first_refusal
judged_end_lem file k r = rw (judged_fits file (stations file), eq-eqb (length (judged_sheet file (stations file))) (sheet_length (stations file)) (judged-length file (stations file)))

-- The record is taken.
abbrev pub taken : List ℕ → ℕ → List ℕ → Bool
taken file k r = done (judged_end file k r)

-- What a replacement leaves of the file:
unfoldable pub left : List ℕ → ℕ → List ℕ → List ℕ
left file k r = replaced_file file (sheet_of file) k r

module _ (file : List ℕ) (k : ℕ) (r : List ℕ) where
  -- the file with the record where it is taken, else as it was.
  pub taken_so : left file k r ≡ cond (taken file k r) (with_record file k r) file
  unfolding left replaced_file if_done
  taken_so = rw (judged_end_lem file k r)

  pub put_so : taken file k r ≡ true → Put (stations file) file k r
  put_so t =
      let may = allowed file (sheet_of file) k r (rw (judged_end_lem file k r) t) in
      record { fits = may.sizes.file_size; low = may.within; size = may.size }

  -- a file of the same length takes the same records
  pub taken_by_length : (g : List ℕ) → length g ≡ length file → taken g k r ≡ taken file k r
  unfolding too_long not_records stations
  taken_by_length g e = rw e

-- what two replacements leave of the file, by which of the two are taken
module _ (file : List ℕ) (i j : ℕ) (r s : List ℕ) where
  both_left : left (left file i r) j s
      ≡ cond (taken file j s) (with_record (cond (taken file i r) (with_record file i r) file) j s) (cond (taken file i r) (with_record file i r) file)
  both_left = rw (taken_so file i r) (by_case (taken file i r) refl)
    where
      by_case : (a : Bool) → taken file i r ≡ a
          → left (cond a (with_record file i r) file) j s ≡ cond (taken file j s) (with_record (cond a (with_record file i r) file) j s) (cond a (with_record file i r) file)
      by_case false e = taken_so file j s
      by_case true e =
          let p = put_so file i r e in
          let l : length (with_record file i r) ≡ length file = put-length (stations file) file i r p ∙ sym p.fits in
          taken_so (with_record file i r) j s ∙ rw (taken_by_length file j s (with_record file i r) l)

  -- of one number, the later record that is taken
  later_left : i ≡ j → taken file j s ≡ true → left (left file i r) j s ≡ left file j s
  later_left e t = both_left ∙ by_case (taken file i r) refl ∙ sym (taken_so file j s)
    where
      by_case : (a : Bool) → taken file i r ≡ a
          → cond (taken file j s) (with_record (cond a (with_record file i r) file) j s) (cond a (with_record file i r) file) ≡ cond (taken file j s) (with_record file j s) file
      by_case false x = refl
      by_case true x = rw t (put_absorbs (stations file) file i j r s (put_so file i r x) (put_so file j s t) e)

swapped_left : (file : List ℕ) (i j : ℕ) (r s : List ℕ) → (i ≡ j → ⊥) → left (left file i r) j s ≡ left (left file j s) i r
swapped_left file i j r s ne = both_left file i j r s ∙ by_case (taken file i r) (taken file j s) refl refl ∙ sym (both_left file j i s r)
  where
    by_case : (a b : Bool) → taken file i r ≡ a → taken file j s ≡ b
        → cond b (with_record (cond a (with_record file i r) file) j s) (cond a (with_record file i r) file)
        ≡ cond a (with_record (cond b (with_record file j s) file) i r) (cond b (with_record file j s) file)
    by_case true true x y = put_commutes (stations file) file i j r s (put_so file i r x) (put_so file j s y) ne
    by_case true false x y = refl
    by_case false true x y = refl
    by_case false false x y = refl

standing_left : (file : List ℕ) (k : ℕ) → left file k (record_at file k) ≡ file
standing_left file k = taken_so file k (record_at file k) ∙ by_case (taken file k (record_at file k)) refl
  where
    by_case : (a : Bool) → taken file k (record_at file k) ≡ a → cond a (with_record file k (record_at file k)) file ≡ file
    by_case false x = refl
    by_case true x = put_standing (stations file) file k (record_at file k) (put_so file k (record_at file k) x) refl

-- A judged sheet follows its file, so two runs that leave the same file leave the same sheet.
pub by_file : (file : List ℕ) (cs ds : List (ℕ × List ℕ)) → (after_all (file, sheet_of file) cs).0 ≡ (after_all (file, sheet_of file) ds).0
    → after_all (file, sheet_of file) cs ≡ after_all (file, sheet_of file) ds
by_file file cs ds e =
    let x : (after_all (file, sheet_of file) cs).1 ≡ (after_all (file, sheet_of file) ds).1 = after_any_run cs file (sheet_of file) refl ∙ ap sheet_of e ∙ sym (after_any_run ds file (sheet_of file) refl) in
    λ t. (e t, x t)

no_run : (file : List ℕ) → after_all (file, sheet_of file) [] ≡ (file, sheet_of file)
unfolding after_all
no_run file = refl

no_run_file : (file : List ℕ) → (after_all (file, sheet_of file) []).0 ≡ file
unfolding after_all
no_run_file file = refl

one_run : (file : List ℕ) (i : ℕ) (r : List ℕ) → (after_all (file, sheet_of file) ((i, r) ∷ [])).0 ≡ left file i r
unfolding after_all left
one_run file i r = refl

two_run : (file : List ℕ) (i j : ℕ) (r s : List ℕ) → (after_all (file, sheet_of file) ((i, r) ∷ (j, s) ∷ [])).0 ≡ left (left file i r) j s
unfolding after_all left
two_run file i j r s = rw (replaced_judged file i r)

-- Wish 5. Replacing number i and then number j leaves the same file and the same sheet as j and then i, refused calls among them;
pub either_order : (file : List ℕ) (i j : ℕ) (r s : List ℕ) → (i ≡ j → ⊥)
    → after_all (file, sheet_of file) ((i, r) ∷ (j, s) ∷ []) ≡ after_all (file, sheet_of file) ((j, s) ∷ (i, r) ∷ [])
either_order file i j r s ne = by_file file _ _ (two_run file i j r s ∙ swapped_left file i j r s ne ∙ sym (two_run file j i s r))

-- of one number the later record, unless its call is refused, stands, as if the earlier had never come;
pub later_stands : (file : List ℕ) (k : ℕ) (r s : List ℕ) → done (replace_outcome file (sheet_of file) k s) ≡ true
    → after_all (file, sheet_of file) ((k, r) ∷ (k, s) ∷ []) ≡ after_all (file, sheet_of file) ((k, s) ∷ [])
later_stands file k r s t = by_file file _ _ (two_run file k k r s ∙ later_left file k k r s refl (rw (judged_end_lem file k s) at t) ∙ sym (one_run file k s))

-- and where that is refused what the earlier one left stands;
pub earlier_stands : (file : List ℕ) (k : ℕ) (r s : List ℕ) → done (replace_outcome file (sheet_of file) k s) ≡ false
    → after_all (file, sheet_of file) ((k, r) ∷ (k, s) ∷ []) ≡ after_all (file, sheet_of file) ((k, r) ∷ [])
earlier_stands file k r s f =
    let t : taken file k s ≡ false = rw (judged_end_lem file k s) at f in
    let kept = cond (taken file k r) (with_record file k r) file in
    let none : cond (taken file k s) (with_record kept k s) kept ≡ kept = rw t in
    by_file file _ _ (two_run file k k r s ∙ both_left file k k r s ∙ none ∙ sym (taken_so file k r) ∙ sym (one_run file k r))

-- and the record that stands changes no byte.
pub standing_idle : (file : List ℕ) (k : ℕ) → after_all (file, sheet_of file) ((k, record_at file k) ∷ []) ≡ (file, sheet_of file)
standing_idle file k = by_file file ((k, record_at file k) ∷ []) [] (one_run file k (record_at file k) ∙ standing_left file k ∙ sym (no_run_file file)) ∙ no_run file
