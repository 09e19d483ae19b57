-- What verifying finds is so: a yes exactly for the sheet that the file is judged to, else the first wrong byte, and a yes for every
-- sheet that was judged and then mended.
use Rattle.std.specs.Prelude.{Ok, Err}
use mathlib.Core.Path.{◌≡◌, refl, sym, ap, ◌∙◌, subst}
use mathlib.Core.Bool.{Bool, true, false, cond, not}
use mathlib.Core.List.{List, [], ◌∷◌}
use Prim.Native.Nat.{ℕ, ◌≤◌, ◌<◌}
use native.Mathlib.Omega.{arith}
use lib.Dec.{eqb}
use lib.ListN.{length, get_or, take}
use lib.Seq.{take_all}
use borrow.Author.Tests.{eq-eqb, eqb-true, eqb-false}
use Rattle.columns.specs.Texts.{sized}
use Rattle.basics.specs.Outcomes.{refusal, when, first_refusal}
use Rattle.basics.specs.declared.Refusal.TheVariants as why
use Rattle.basics.proofs.RefusalLaws.{done, done_is, if_done_lem, if_refused, passes, none_left, asked-on}
use Rattle.files.specs.Files.{stations, too_long, not_records}
use Rattle.files.specs.Calls.{file_tests}
use Rattle.files.proofs.LengthLaws.{length_passed}
use Rattle.forms.specs.OwnForm.{sheet_length}
use Rattle.sheet.specs.Sheets.{judged_sheet, sheet_of}
use Rattle.sheet.specs.Calls.{judge_outcome}
use Rattle.sheet.proofs.SheetLaws.{judged-length}
use Rattle.sheet.proofs.JudgeLaws.{judge_sized_up}
use Rattle.replacing.specs.Calls.{after_all}
use Rattle.replacing.proofs.Demand3.{after_any_run}
use Rattle.replacing.proofs.AnyOrder.{Call, run_keeps_length}
use Rattle.alike.specs.Alike.{alike}
use Rattle.verifying.specs.Verifying.{compared, finding_of}
use Rattle.verifying.specs.declared.verifying.Finding.{Finding}
use Rattle.verifying.specs.declared.verifying.Finding.TheVariants as finding
use Rattle.alike.proofs.AlikeLaws.{alike_most, alike_itself, alike-bytes, alike_no_more}

-- An offset below the sheet's length: every byte before it is right, and that byte is wrong.
abbrev pub FirstWrong : List ℕ → List ℕ → ℕ → Type 0
FirstWrong right sheet o = (o < length sheet) × (take o sheet ≡ take o right) × (get_or sheet o 0 ≡ get_or right o 0 → ⊥)

-- which of the three it is, and its offset
kind : Finding → ℕ
kind finding.Refused = 0
kind finding.Right = 1
kind (finding.WrongAt o) = 2

offset : Finding → ℕ
offset finding.Refused = 0
offset finding.Right = 0
offset (finding.WrongAt o) = o

-- Two texts of one length
module _ (right sheet : List ℕ) (e : length sheet ≡ length right) where
  right_compared : compared right sheet ≡ finding.Right → sheet ≡ right
  unfolding compared kind
  right_compared = by (eqb (alike right sheet) (length sheet)) refl
    where
      by : (b : Bool) → eqb (alike right sheet) (length sheet) ≡ b → cond b finding.Right (finding.WrongAt (alike right sheet)) ≡ finding.Right → sheet ≡ right
      by true t q =
          let all : alike right sheet ≡ length sheet = eqb-true (alike right sheet) (length sheet) t in
          let both : take (length sheet) sheet ≡ take (length sheet) right = rw all at (alike-bytes right sheet) in
          sym (take_all (length sheet) sheet (omega arith)) ∙ both ∙ take_all (length sheet) right (omega (arith, e))
      by false t q = let k : ◌≡◌ {A = ℕ} 2 1 = ap kind q in absurd (omega (arith, k))

  wrong_compared : (o : ℕ) → compared right sheet ≡ finding.WrongAt o → FirstWrong right sheet o
  unfolding compared kind offset
  wrong_compared o = by (eqb (alike right sheet) (length sheet)) refl
    where
      by : (b : Bool) → eqb (alike right sheet) (length sheet) ≡ b → cond b finding.Right (finding.WrongAt (alike right sheet)) ≡ finding.WrongAt o
          → FirstWrong right sheet o
      by true t q = let k : ◌≡◌ {A = ℕ} 1 2 = ap kind q in absurd (omega (arith, k))
      by false t q =
          let at : alike right sheet ≡ o = ap offset q in
          let most : alike right sheet ≤ length right = alike_most right sheet in
          let other = eqb-false (alike right sheet) (length sheet) t in
          let short : alike right sheet < length sheet = omega (arith, e, most, other) in
          subst (λ (x : ℕ). FirstWrong right sheet x) at (short, alike-bytes right sheet, alike_no_more right sheet (omega (arith, e, short)) short)

module _ (file sheet : List ℕ) where
  found : done (judge_outcome file sheet) ≡ true → finding_of file sheet ≡ compared (sheet_of file) sheet
  unfolding finding_of
  found t = if_done_lem (judge_outcome file sheet) (compared (sheet_of file) sheet) finding.Refused t

  found_nothing : done (judge_outcome file sheet) ≡ false → finding_of file sheet ≡ finding.Refused
  unfolding finding_of
  found_nothing t = if_refused (judge_outcome file sheet) (compared (sheet_of file) sheet) finding.Refused t

  one_length : done (judge_outcome file sheet) ≡ true → length sheet ≡ length (sheet_of file)
  unfolding sheet_of
  one_length t = (judge_sized_up file sheet t).sheet_size ∙ sym (judged-length file (stations file))

  -- A yes is said of the sheet that the file is judged to alone,
  pub yes_is_judged : finding_of file sheet ≡ finding.Right → (judge_outcome file sheet ≡ Ok tt) × (sheet ≡ sheet_of file)
  unfolding kind
  yes_is_judged q = by (done (judge_outcome file sheet)) refl
    where
      by : (b : Bool) → done (judge_outcome file sheet) ≡ b → (judge_outcome file sheet ≡ Ok tt) × (sheet ≡ sheet_of file)
      by true t = (done_is (judge_outcome file sheet) t, right_compared (sheet_of file) sheet (one_length t) (sym (found t) ∙ q))
      by false t = let k : ◌≡◌ {A = ℕ} 0 1 = ap kind (sym (found_nothing t) ∙ q) in absurd (omega (arith, k))

  -- and a no names its first wrong byte.
  pub no_is_wrong : (o : ℕ) → finding_of file sheet ≡ finding.WrongAt o → FirstWrong (sheet_of file) sheet o
  unfolding kind
  no_is_wrong o q = by (done (judge_outcome file sheet)) refl
    where
      by : (b : Bool) → done (judge_outcome file sheet) ≡ b → FirstWrong (sheet_of file) sheet o
      by true t = wrong_compared (sheet_of file) sheet (one_length t) o (sym (found t) ∙ q)
      by false t = let k : ◌≡◌ {A = ℕ} 0 2 = ap kind (sym (found_nothing t) ∙ q) in absurd (omega (arith, k))

-- a file that is taken is judged into a sheet of its length
taken-judged : (file : List ℕ) → done (first_refusal (file_tests file)) ≡ true → judge_outcome file (sheet_of file) ≡ Ok tt
unfolding judge_outcome sheet_of
taken-judged file t =
    asked-on (file_tests file) (when (not (sized (sheet_length (stations file)) (judged_sheet file (stations file)))) (Err why.SheetLength) ∷ []) (length_passed file t)
    ∙ passes (Err why.SheetLength) [] (rw (eq-eqb _ _ (judged-length file (stations file))))
    ∙ none_left

-- Every file that is taken gets a yes for the sheet that it is judged to,
pub judged_is_yes : (file : List ℕ) → done (first_refusal (file_tests file)) ≡ true → finding_of file (sheet_of file) ≡ finding.Right
unfolding compared refusal
judged_is_yes file t =
    found file (sheet_of file) (rw (taken-judged file t))
    ∙ rw (eq-eqb (alike (sheet_of file) (sheet_of file)) (length (sheet_of file)) (alike_itself (sheet_of file)))

-- and so does what our box leaves that judged a file and then replaced records in it, refused calls among them.
pub mended_is_yes : (file : List ℕ) (calls : List Call) → done (first_refusal (file_tests file)) ≡ true
    → let after = after_all (file, sheet_of file) calls in finding_of after.0 after.1 ≡ finding.Right
mended_is_yes file calls t =
    let after = after_all (file, sheet_of file) calls in
    let taken : done (first_refusal (file_tests after.0)) ≡ true = by_length file after.0 (run_keeps_length file calls) ∙ t in
    ap (λ (s : List ℕ). finding_of after.0 s) (after_any_run calls file (sheet_of file) refl) ∙ judged_is_yes after.0 taken
  where
    by_length : (f g : List ℕ) → length g ≡ length f → done (first_refusal (file_tests g)) ≡ done (first_refusal (file_tests f))
    by_length f g e = unfold too_long not_records in rw e
