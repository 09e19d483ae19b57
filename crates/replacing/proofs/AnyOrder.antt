-- Runs of replacements from a file and the sheet judged from it: what a record becomes hangs on the calls at its own number alone, so that
-- calls at different numbers may come in any order.
use mathlib.Core.Path.{◌≡◌, refl, sym, ap, ◌∙◌}
use mathlib.Core.Bool.{Bool, true, false, cond, ◌&&◌}
use mathlib.Core.List.{List, [], ◌∷◌, ◌++◌}
use Prim.Native.Nat.{ℕ, ◌≤◌}
use native.Mathlib.Omega.{arith}
use lib.ListN.{length}
use lib.Dec.{eqb}
use Rattle.basics.specs.Outcomes.{first_refusal, record_test}
use Rattle.basics.proofs.RefusalLaws.{done, ended-there}
use Rattle.files.specs.Files.{stations, record_at, with_record}
use Rattle.files.specs.Calls.{file_tests, number_test}
use Rattle.files.proofs.LengthLaws.{length_passed, whole_records}
use Rattle.files.proofs.PutLaws.{same_records, put-length, put_record}
use Rattle.sheet.specs.Sheets.{sheet_of}
use Rattle.replacing.specs.Calls.{after_all}
use Rattle.replacing.proofs.Demand3.{replaced_judged}
use Rattle.replacing.proofs.EitherOrder.{taken, left, taken_so, put_so, taken_by_length, by_file}

-- A call: a record's number and the record that is to stand there.
abbrev pub Call : Type 0
Call = ℕ × List ℕ

-- The calls of a run at number m, in their order.
abbrev pub own : ℕ → List Call → List Call
own m [] = []
own m (call ∷ calls) = cond (eqb m call.0) (call ∷ own m calls) (own m calls)

-- The last record of a run that is taken at number m, and where none is the one that stood there.
abbrev pub last_taken : List ℕ → ℕ → List Call → List ℕ → List ℕ
last_taken file m [] r = r
last_taken file m (call ∷ calls) r = last_taken file m calls (cond (eqb m call.0 && taken file call.0 call.1) call.1 r)

-- what a run leaves of the file
run : List ℕ → List Call → List ℕ
run file [] = file
run file (call ∷ calls) = run (left file call.0 call.1) calls

run_so : (calls : List Call) (file : List ℕ) → (after_all (file, sheet_of file) calls).0 ≡ run file calls
unfolding after_all left run
run_so [] file = refl
run_so (call ∷ calls) file =
    let after = left file call.0 call.1 in
    ap (λ (s : List ℕ). (after_all (after, s) calls).0) (replaced_judged file call.0 call.1) ∙ run_so calls after

-- a file keeps its length,
left-length : (file : List ℕ) (k : ℕ) (r : List ℕ) → length (left file k r) ≡ length file
left-length file k r = ap length (taken_so file k r) ∙ by (taken file k r) refl
  where
    by : (b : Bool) → taken file k r ≡ b → length (cond b (with_record file k r) file) ≡ length file
    by false e = refl
    by true e = let p = put_so file k r e in put-length (stations file) file k r p ∙ sym p.fits

run_length : (calls : List Call) (file : List ℕ) → length (run file calls) ≡ length file
unfolding run
run_length [] file = refl
run_length (call ∷ calls) file = run_length calls (left file call.0 call.1) ∙ left-length file call.0 call.1

-- also through a run,
pub run_keeps_length : (file : List ℕ) (calls : List Call) → length (after_all (file, sheet_of file) calls).0 ≡ length file
run_keeps_length file calls = ap length (run_so calls file) ∙ run_length calls file

-- so that the same records are taken all the way
last_by_length : (calls : List Call) (f g : List ℕ) (m : ℕ) (r : List ℕ) → length g ≡ length f → last_taken g m calls r ≡ last_taken f m calls r
last_by_length [] f g m r e = refl
last_by_length (call ∷ calls) f g m r e = rw (taken_by_length f call.0 call.1 g e) (last_by_length calls f g m _ e)

-- one call changes its own record at most
left_record : (file : List ℕ) (k : ℕ) (r : List ℕ) (m : ℕ) → m ≤ stations file → record_at (left file k r) m ≡ cond (eqb m k && taken file k r) r (record_at file m)
left_record file k r m l = ap (λ (f : List ℕ). record_at f m) (taken_so file k r) ∙ by (taken file k r) refl (eqb m k) refl
  where
    by : (b : Bool) → taken file k r ≡ b → (s : Bool) → eqb m k ≡ s → record_at (cond b (with_record file k r) file) m ≡ cond (s && b) r (record_at file m)
    by false e true x = refl
    by false e false x = refl
    by true e true x = put_record (stations file) file k r (put_so file k r e) m l ∙ rw x
    by true e false x = put_record (stations file) file k r (put_so file k r e) m l ∙ rw x

stations-left : (file : List ℕ) (k : ℕ) (r : List ℕ) → stations (left file k r) ≡ stations file
unfolding stations
stations-left file k r = rw (left-length file k r)

run_record : (calls : List Call) (file : List ℕ) (m : ℕ) → m ≤ stations file → record_at (run file calls) m ≡ last_taken file m calls (record_at file m)
unfolding run
run_record [] file m l = refl
run_record (call ∷ calls) file m l =
    let after = left file call.0 call.1 in
    run_record calls after m (rw (stations-left file call.0 call.1) l)
    ∙ last_by_length calls file after m (record_at after m) (left-length file call.0 call.1)
    ∙ ap (λ (r : List ℕ). last_taken file m calls r) (left_record file call.0 call.1 m l)

-- After a run each record is the last that was taken at its number;
pub last_stands : (file : List ℕ) (calls : List Call) (m : ℕ) → m ≤ stations file
    → record_at (after_all (file, sheet_of file) calls).0 m ≡ last_taken file m calls (record_at file m)
last_stands file calls m l = ap (λ (f : List ℕ). record_at f m) (run_so calls file) ∙ run_record calls file m l

-- it is found among the calls at that number,
pub own-last : (calls : List Call) (file : List ℕ) (m : ℕ) (r : List ℕ) → last_taken file m calls r ≡ last_taken file m (own m calls) r
own-last [] file m r = refl
own-last (call ∷ calls) file m r = by (eqb m call.0) refl (λ (x : List ℕ). own-last calls file m x)
  where
    by : (b : Bool) → eqb m call.0 ≡ b → ((x : List ℕ) → last_taken file m calls x ≡ last_taken file m (own m calls) x)
        → last_taken file m calls (cond (b && taken file call.0 call.1) call.1 r) ≡ last_taken file m (cond b (call ∷ own m calls) (own m calls)) r
    by true e rest =
        let put : Bool → List ℕ = λ (b : Bool). cond (b && taken file call.0 call.1) call.1 r in
        rest (put true) ∙ ap (λ (b : Bool). last_taken file m (own m calls) (put b)) (sym e)
    by false e rest = rest r

-- a file that no call takes stays as it is
run_idle : (calls : List Call) (file : List ℕ) → done (first_refusal (file_tests file)) ≡ false → run file calls ≡ file
unfolding run
run_idle [] file refused = refl
run_idle (call ∷ calls) file refused = let same : left file call.0 call.1 ≡ file = none-taken in rw same (run_idle calls file refused)
  where
    none-taken : left file call.0 call.1 ≡ file
    none-taken =
        let t : taken file call.0 call.1 ≡ false = ap done (sym (ended-there (file_tests file) (number_test file call.0 ∷ record_test call.1 ∷ []) refused)) ∙ refused in
        taken_so file call.0 call.1 ∙ rw t

-- and so any two runs in which the calls at each number come in one order leave the same file and the same sheet.
pub any_order : (file : List ℕ) (calls others : List Call) → ((m : ℕ) → own m calls ≡ own m others) → after_all (file, sheet_of file) calls ≡ after_all (file, sheet_of file) others
any_order file calls others alike = by_file file calls others (run_so calls file ∙ by (done (first_refusal (file_tests file))) refl ∙ sym (run_so others file))
  where
    record_alike : (m : ℕ) → m ≤ stations file → record_at (run file calls) m ≡ record_at (run file others) m
    record_alike m l =
        run_record calls file m l
        ∙ own-last calls file m (record_at file m)
        ∙ ap (λ (cs : List Call). last_taken file m cs (record_at file m)) (alike m)
        ∙ sym (run_record others file m l ∙ own-last others file m (record_at file m))

    by : (b : Bool) → done (first_refusal (file_tests file)) ≡ b → run file calls ≡ run file others
    by false e = run_idle calls file e ∙ sym (run_idle others file e)
    by true e =
        let whole = whole_records file (length_passed file e) in
        same_records (run file calls) (run file others) (stations file) (run_length calls file ∙ whole.1) (run_length others file ∙ whole.1) record_alike
