-- Tests asked in their order: one that does not apply is passed over, and the first that applies ends the call.
use Rattle.std.specs.Prelude.{Result, Ok, Err, is_ok, is_err}
use mathlib.Core.Path.{◌≡◌, refl, sym, ap, ◌∙◌}
use mathlib.Core.Bool.{Bool, true, false, not, cond, ◌&&◌, false≢true}
use mathlib.Core.List.{List, [], ◌∷◌, ◌++◌}
use Prim.Native.Nat.{ℕ}
use lib.Dec.{eqb}
use borrow.Author.Tests.{eqb-true, not-true, not-false}
use Rattle.std.specs.Result.{IsErrAnd, result_unwrap_or}
use Rattle.std.proofs.lemmas.Result.{err_from_is_err_and}
use Rattle.basics.specs.Outcomes.{ends, number, refusal, code_with, if_done, Test, when, first_refusal, judged, Outcome}
use Rattle.basics.specs.declared.Refusal.{Refusal}
use Rattle.basics.specs.declared.Refusal.TheVariants as why

-- A call is done where no number refuses it,
abbrev pub done : Outcome → Bool
done o = eqb (refusal o) 0

-- and no refusal has the number 0:
numbered : (r : Refusal) → eqb (number r) 0 ≡ false
numbered why.FileTooLong = refl
numbered why.FileNotRecords = refl
numbered why.SheetLength = refl
numbered why.SheetTrailer = refl
numbered why.NoSuchRecord = refl
numbered why.RecordLength = refl
numbered why.BufferLength = refl
numbered why.NoSuchField = refl
numbered why.NotALine = refl
numbered why.FieldTooLong = refl
numbered why.BufferTooShort = refl
numbered why.NotTwelveDigits = refl
numbered why.LastDigitWrong = refl
numbered why.NotMobileDefaults = refl
numbered why.TooFewRows = refl
numbered (why.RuleBroken c) = refl

-- so a call is done exactly where it answers Ok,
pub ok-done : (o : Outcome) → is_ok o ≡ done o
unfolding refusal
ok-done (Ok tt) = refl
ok-done (Err r) = sym (numbered r)

-- whatever it answers with,
pub ok-ends : {A : Type 0} (a : Result A Refusal) → is_ok a ≡ done (ends a)
unfolding refusal
ok-ends (Ok x) = refl
ok-ends (Err r) = sym (numbered r)

-- and then its outcome is the one that is done.
pub done_is : (o : Outcome) → done o ≡ true → o ≡ Ok tt
unfolding refusal
done_is (Ok tt) e = refl
done_is (Err r) e = absurd (false≢true (sym (numbered r) ∙ e))

-- Where a caller asked whether an outcome is an error and went on, the call was done;
pub went_on : {o o' : Outcome} {d : Bool} → o ≡ o' → d ≡ is_err o → d ≡ false → done o' ≡ true
went_on {o} {o'} {d} e a n = ap (λ (x : Outcome). done x) (sym e) ∙ sym (ok-done o) ∙ by o (sym a ∙ n)
  where
    by : (x : Outcome) → is_err x ≡ false → is_ok x ≡ true
    by (Ok tt) f = refl
    by (Err r) f = absurd (false≢true (sym f))

-- where it stopped, it was not.
pub stopped : {o o' : Outcome} {d : Bool} → o ≡ o' → d ≡ is_err o → d ≡ true → done o' ≡ false
stopped {o} {o'} {d} e a n = ap (λ (x : Outcome). done x) (sym e) ∙ sym (ok-done o) ∙ by o (sym a ∙ n)
  where
    by : (x : Outcome) → is_err x ≡ true → is_ok x ≡ false
    by (Ok tt) f = absurd (false≢true f)
    by (Err r) f = refl

-- Where a caller passes on the error of an outcome, it answers that outcome,
pub passed_on : {o result : Outcome} {r : Refusal} → IsErrAnd result (λ e. e ≡ r) → Err r ≡ o → result ≡ o
passed_on {o} {result} {r} h e = let p = err_from_is_err_and result h in p.1 ∙ ap (λ (x : Refusal). Err x) p.2 ∙ e

-- or how that call ends, where it answers with a value,
pub ended_on : {A : Type 0} {o : Outcome} {r : Refusal} (result : Result A Refusal) → IsErrAnd result (λ e. e ≡ r) → Err r ≡ o → ends result ≡ o
ended_on {A} {o} {r} result h e = let p = err_from_is_err_and result h in ap (λ (x : Result A Refusal). ends x) p.1 ∙ ap (λ (x : Refusal). Err x) p.2 ∙ e

-- and it has no value;
pub no_value : {A : Type 0} (none : A) (result : Result A Refusal) → is_err result ≡ true → result_unwrap_or result none ≡ none
no_value none (Ok x) e = absurd (false≢true e)
no_value none (Err r) e = refl

-- and the call was not done;
pub error_told : {o : Outcome} {r : Refusal} → Err r ≡ o → done o ≡ false
unfolding refusal
error_told {o} {r} e = ap done (sym e) ∙ numbered r

-- nor is the caller's;
pub error_done : (result : Outcome) {o : Outcome} {r : Refusal} → IsErrAnd result (λ e. e ≡ r) → Err r ≡ o → done result ≡ false
error_done result {o} {r} h e = ap done (passed_on {o = o} {result = result} {r = r} h e) ∙ error_told {o = o} {r = r} e

-- where there was none it was.
pub none_told : {o : Outcome} {u : Unit {0}} → Ok u ≡ o → done o ≡ true
unfolding refusal
none_told e = ap done (sym e)

-- What is left where a call is done, and where it is not.
pub if_done_lem : {A : Type 0} (o : Outcome) (x y : A) → done o ≡ true → if_done o x y ≡ x
unfolding if_done
if_done_lem o x y e = rw e

pub if_refused : {A : Type 0} (o : Outcome) (x y : A) → done o ≡ false → if_done o x y ≡ y
unfolding if_done
if_refused o x y e = rw e

-- Values that agree where a call is done are left alike.
pub left-alike : {A : Type 0} (o : Outcome) (x z y : A) → (done o ≡ true → x ≡ z) → if_done o x y ≡ if_done o z y
unfolding if_done
left-alike o x z y f = by (done o) f
  where
    by : (b : Bool) → (b ≡ true → x ≡ z) → cond b x y ≡ cond b z y
    by true g = g refl
    by false g = refl

module _ {b : Bool} (o : Outcome) (ts : List Test) where
  -- A test that does not apply is passed over,
  pub passes : b ≡ false → first_refusal (when b o ∷ ts) ≡ first_refusal ts
  unfolding first_refusal
  passes e = rw e

  -- and one that applies ends the call.
  pub stops : b ≡ true → first_refusal (when b o ∷ ts) ≡ o
  unfolding first_refusal
  stops e = rw e

-- No test is left: the call is done.
pub none_left : first_refusal [] ≡ Ok tt
unfolding first_refusal
none_left = refl

-- Each test of a list gives a refusal.
abbrev pub refusing : List Test → Bool
refusing [] = true
refusing (t ∷ ts) = not (done t.1) && refusing ts

-- No test of a list applies.
abbrev pub NoneApplies : List Test → Type 0
NoneApplies [] = Unit {0}
NoneApplies (t ∷ ts) = (t.0 ≡ false) × NoneApplies ts

-- two truths
and_right : (a b : Bool) → (a && b) ≡ true → b ≡ true
and_right true b e = e
and_right false b e = absurd (false≢true e)

-- the first test of a call that is done
passed : (b : Bool) (o : Outcome) (ts : List Test) (rest : Bool) → (not (done o) && rest) ≡ true → done (first_refusal (when b o ∷ ts)) ≡ true
    → (b ≡ false) × (rest ≡ true) × (done (first_refusal ts) ≡ true)
unfolding first_refusal
passed true o ts rest r d = absurd (false≢true (rw d at r))
passed false o ts rest r d = (refl, and_right (not (done o)) rest r, d)

-- A call that is done met no test that applies,
pub none_applies : (ts : List Test) → refusing ts ≡ true → done (first_refusal ts) ≡ true → NoneApplies ts
none_applies [] r d = tt
none_applies (t ∷ ts) r d =
    let first = passed t.0 t.1 ts (refusing ts) r d in
    (first.0, none_applies ts first.1 first.2)

-- and asks what comes after them;
pub asked-on : (s t : List Test) → NoneApplies s → first_refusal (s ++ t) ≡ first_refusal t
asked-on [] t n = refl
asked-on (x ∷ s) t n = passes x.1 (s ++ t) n.0 ∙ asked-on s t n.1

-- one that is refused is refused whatever comes after.
pub ended-there : (s t : List Test) → done (first_refusal s) ≡ false → first_refusal s ≡ first_refusal (s ++ t)
unfolding first_refusal refusal
ended-there [] t d = absurd (false≢true (sym d))
ended-there (x ∷ s) t d = by x.0 d (ended-there s t)
  where
    by : (b : Bool) → done (cond b x.1 (first_refusal s)) ≡ false → (done (first_refusal s) ≡ false → first_refusal s ≡ first_refusal (s ++ t))
        → cond b x.1 (first_refusal s) ≡ cond b x.1 (first_refusal (s ++ t))
    by true d rest = refl
    by false d rest = rest d

-- The code that comes with a verdict is the one that it was judged by.
pub judged-code : (c : ℕ) → code_with (judged c) ≡ c
unfolding judged first_refusal code_with
judged-code c = by (eqb c 0) refl
  where
    by : (b : Bool) → eqb c 0 ≡ b → code_with (cond (not b) (Err (why.RuleBroken c)) (Ok tt)) ≡ c
    by true e = sym (eqb-true c 0 e)
    by false e = refl

-- Two answers that end alike, and have one value where one that stands for none is put in, are equal.
pub one_answer : {A : Type 0} (none : A) (a b : Result A Refusal) → ends a ≡ ends b → result_unwrap_or a none ≡ result_unwrap_or b none → a ≡ b
unfolding refusal
one_answer none (Ok x) (Ok y) p q = ap (λ v. Ok v) q
one_answer {A} none (Err r) (Err s) p q = ap filled p
  where
    filled : Outcome → Result A Refusal
    filled (Ok u) = Ok none
    filled (Err w) = Err w
one_answer none (Ok x) (Err s) p q = absurd (false≢true (sym (ap (λ (o : Outcome). done o) p ∙ numbered s)))
one_answer none (Err r) (Ok y) p q = absurd (false≢true (sym (numbered r) ∙ ap (λ (o : Outcome). done o) p))
