-- What makes mending right, over any row and any key. A value of row j is local by a key of records if it hangs on record j, on the
-- records before it that share j's key, and on nothing else.
use mathlib.Core.Path.{◌≡◌, refl, sym, ap, ◌∙◌}
use mathlib.Core.Logic.{⊎_elim, ◌⊎◌, inl, inr}
use mathlib.Core.Bool.{Bool, true, false, cond, ◌&&◌, ◌||◌}
use mathlib.Core.List.{List, [], ◌∷◌, ◌++◌}
use Prim.Native.Nat.{ℕ, suc, ◌+◌, ◌-◌, ◌*◌, ◌≤◌, ◌<◌}
use native.Mathlib.Decide.{ℕ_discrete}
use native.Mathlib.Omega.{arith}
use lib.ListN.{length, take, drop}
use lib.Dec.{leb}
use borrow.Author.Tests.{le-leb}
use Rattle.columns.specs.Texts.{same}
use Rattle.files.specs.Files.{record_at, with_record}
use Rattle.files.proofs.ReplacedLaws.{replaced_record, other_record}
use Rattle.files.proofs.LengthLaws.{not_both, or_false}
use Rattle.forms.specs.Counting.{first, rows}
use Rattle.forms.proofs.CountLaws.{first_cong}
use Rattle.forms.proofs.RowLaws.{RowsWide, rows_cong, mended_rows}
use Rattle.columns.proofs.SameLaws.{same_refl, same_true, same_sym}

-- records i and j bear different keys, in both files
abbrev pub Apart : (List ℕ → List ℕ) → List ℕ → List ℕ → ℕ → ℕ → Type 0
Apart key f g i j = (same (key (record_at f i)) (key (record_at f j)) ≡ false) × (same (key (record_at g i)) (key (record_at g j)) ≡ false)

-- Row j has one value in two files that agree in record j, and in each station before it or in that its key is not j's.
abbrev pub Local : (List ℕ → List ℕ) → {A : Type 0} → (List ℕ → ℕ → A) → Type 0
Local key value =
    (f g : List ℕ) (j : ℕ) → record_at f j ≡ record_at g j
    → ((i : ℕ) → 1 ≤ i → i < j → (record_at f i ≡ record_at g i) ⊎ Apart key f g i j)
    → value f j ≡ value g j

-- A test of two records passes only where they share the key.
abbrev pub Finer : (List ℕ → List ℕ → Bool) → (List ℕ → List ℕ) → Type 0
Finer test key = (a b : List ℕ) → same (key a) (key b) ≡ false → test a b ≡ false

-- The lowest station below j that passes a test with j, or 0: twin and clash are both of this kind.
abbrev pub lowest_below : (List ℕ → List ℕ → Bool) → List ℕ → ℕ → ℕ
lowest_below test file j = first (λ i. test (record_at file i) (record_at file j)) (j - 1)

module _ (key : List ℕ → List ℕ) where
  -- What hangs on record j alone is local,
  pub own_local : {A : Type 0} (value : List ℕ → A) → Local key (λ f j. value (record_at f j))
  own_local value f g j e others = rw e

  -- the lowest below by a finer test too,
  pub lowest_local : (test : List ℕ → List ℕ → Bool) → Finer test key → Local key (lowest_below test)
  lowest_local test finer f g j e others =
      first_cong (λ i. test (record_at f i) (record_at f j)) (λ i. test (record_at g i) (record_at g j)) (j - 1)
      (λ i h.
      ⊎_elim
      (λ unchanged. let u : record_at f (suc i) ≡ record_at g (suc i) = unchanged in cc)
      (λ apart. finer (record_at f (suc i)) (record_at f j) apart.0 ∙ sym (finer (record_at g (suc i)) (record_at g j) apart.1))
      (others (suc i) (omega arith) (omega arith)))

  -- and what is made of two such values.
  pub both_local : {A B C : Type 0} (join : A → B → C) {u : List ℕ → ℕ → A} {v : List ℕ → ℕ → B} → Local key u → Local key v → Local key (λ f j. join (u f j) (v f j))
  both_local join lu lv f g j e others = rw (lu f g j e others, lv f g j e others)

-- Equal texts have equal parts: a test that is finer than a key is finer than any part of it.
pub finer_part : (test : List ℕ → List ℕ → Bool) (key : List ℕ → List ℕ) (part : List ℕ → List ℕ) → Finer test key → Finer test (λ r. part (key r))
finer_part test key part finer a b e = finer a b (by_case (same (key a) (key b)) refl)
  where
    by_case : (x : Bool) → same (key a) (key b) ≡ x → x ≡ false
    by_case false q = refl
    by_case true q =
        let k : key a ≡ key b = same_true (key a) (key b) q in
        not_both (same (part (key a)) (part (key b))) (rw k (same_refl (part (key b)))) e

-- Row j is written: row k, and every later row that bears the old or the new key of k.
abbrev pub touched_by : (List ℕ → List ℕ) → List ℕ → List ℕ → ℕ → ℕ → Bool
touched_by key file old k j = leb k j && (same (key (record_at file j)) old || same (key (record_at file j)) (key (record_at file k)))

-- A file of n stations, and a record for its number k.
module _ (key : List ℕ → List ℕ) (file : List ℕ) (k : ℕ) (r : List ℕ) (n : ℕ) (fits : length file ≡ 219 * n + 219) (low : k ≤ n) (size : length r ≡ 219) where
  abbrev file' : List ℕ
  file' = with_record file k r

  abbrev touched : ℕ → Bool
  touched = touched_by key file' (key (record_at file k)) k

  -- the other records keep what they hold
  pub kept_record : (j : ℕ) → (j ≡ k → ⊥) → j ≤ n → record_at file j ≡ record_at file' j
  kept_record j ne l = sym (other_record file k r (omega arith) size j ne (omega arith))

  -- a row from k on that is not touched bears neither the old key nor the new
  bears_neither : (j : ℕ) → touched j ≡ false → k ≤ j → (same (key (record_at file' j)) (key (record_at file k)) ≡ false) × (same (key (record_at file' j)) (key (record_at file' k)) ≡ false)
  bears_neither j t l = or_false _ _ (rw (le-leb k j l) at t)

  -- row k is touched
  not_k : (j : ℕ) → touched j ≡ false → j ≡ k → ⊥
  not_k j t e =
      let m : same (key (record_at file' j)) (key (record_at file' k)) ≡ false = (bears_neither j t (omega arith)).1 in
      let m' : same (key (record_at file' k)) (key (record_at file' k)) ≡ false = rw e at m in
      not_both (same (key (record_at file' k)) (key (record_at file' k))) (same_refl (key (record_at file' k))) m'

  -- so each station before such a row is as it was, or bears another key than the row in both files
  told_apart : (j : ℕ) → j ≤ n → touched j ≡ false → (i : ℕ) → i < j → (record_at file i ≡ record_at file' i) ⊎ Apart key file file' i j
  told_apart j l t i h = elim (ℕ_discrete i k) [
    | yes e ↦
        (let m = bears_neither j t (omega arith) in
        let old : same (key (record_at file k)) (key (record_at file j)) ≡ false = same_sym (key (record_at file k)) (key (record_at file j)) ∙ rw (← kept_record j (not_k j t) l) at m.0 in
        let new : same (key (record_at file' k)) (key (record_at file' j)) ≡ false = same_sym (key (record_at file' k)) (key (record_at file' j)) ∙ m.1 in
        inr (rw e old, rw e new))
    | no ne ↦ inl (kept_record i ne (omega arith))
  ]

  -- A row that is not touched has its old value in the new file,
  pub untouched : {A : Type 0} (value : List ℕ → ℕ → A) → Local key value → (j : ℕ) → j ≤ n → touched j ≡ false → value file j ≡ value file' j
  untouched value is-local j l t = is-local file file' j (kept_record j (not_k j t) l) (λ i p h. told_apart j l t i h)

  -- so to write the touched rows of the old sheet is to write the new one.
  pub mended_by_lem : (w : ℕ) (row : List ℕ → ℕ → List ℕ) → Local key row → RowsWide w (row file) n → (rest : List ℕ)
      → rows (λ j. cond (touched j) (row file' j) (take w (drop (w * (j - 1)) (rows (row file) n ++ rest)))) n ≡ rows (row file') n
  mended_by_lem w row is-local wide rest = mended_rows w (row file) (row file') touched n rest wide (λ i h t. untouched row is-local (suc i) h t)

  -- A header is before every row, and no row hangs on it.
  pub header_rows : (row : List ℕ → ℕ → List ℕ) → Local key row → k ≡ 0 → rows (row file) n ≡ rows (row file') n
  header_rows row is-local z =
      rows_cong (row file) (row file') n
      (λ i h. is-local file file' (suc i) (kept_record (suc i) (λ e. omega arith) h) (λ m p l. inl (kept_record m (λ e. omega arith) (omega arith))))
