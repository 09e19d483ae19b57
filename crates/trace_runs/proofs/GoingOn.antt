-- Stopping after any save and going on later ends the same: whole saves that all run, and a trace behind them, whatever it is.
use mathlib.Core.Path.{◌≡◌, refl, sym, ap, ◌∙◌}
use mathlib.Core.Bool.{Bool, true, false, cond, not}
use mathlib.Core.List.{List, [], ◌∷◌, ◌++◌, append_assoc, append-nil}
use Prim.Native.Nat.{ℕ, zero, suc, ◌+◌, ◌-◌, ◌*◌, ◌/◌, ◌≤◌, ◌<◌}
use native.Mathlib.Omega.{arith}
use native.Mathlib.Nat.{add-zero, add-suc}
use lib.Dec.{eqb, ltb}
use lib.ListN.{length, take, drop, length-append, length-drop}
use lib.Seq.{drop-append-le, drop-append-add, take-append-le}
use borrow.Author.Tests.{ne_eqb}
use Rattle.forms.specs.Counting.{or_else, first, count}
use Rattle.forms.proofs.CountLaws.{first_cong, count_cong}
use Rattle.files.specs.Files.{stations}
use Rattle.sheet.specs.Sheets.{sheet_of}
use Rattle.replacing.specs.Calls.{after_all}
use Rattle.replacing.proofs.Demand3.{after_any_run}
use Rattle.replacing.proofs.AnyOrder.{run_keeps_length}
use Rattle.traces.specs.Traces.{save_length, save_at, saved_number, can_run, begun, stops_at, ran_of, asked}
use Rattle.trace_runs.specs.Replaying.{day_after, accepted, above_all}
use Rattle.traces.proofs.TraceLaws.{stops, call, no_more}
use Rattle.trace_runs.proofs.RunLaws.{after_both}

-- A number of the second of two texts, counted through both: 0 stays 0.
abbrev pub behind : ℕ → ℕ → ℕ
behind m zero = 0
behind m (suc x) = m + suc x

-- A search that finds none of the first m goes on behind them,
first-behind : (p : ℕ → Bool) (m k : ℕ) → first p m ≡ 0 → first p (m + k) ≡ behind m (first (λ i. p (m + i)) k)
first-behind p m zero none = rw (add-zero m) none
first-behind p m (suc k) none = rw (add-suc m k, first-behind p m k none) (by (first (λ i. p (m + i)) k) (p (suc (m + k))))
  where
    by : (x : ℕ) (b : Bool) → or_else (behind m x) (cond b (suc (m + k)) 0) ≡ behind m (or_else x (cond b (suc k) 0))
    by zero true = sym (add-suc m k)
    by zero false = refl
    by (suc x) b = rw (add-suc m x)

-- and a count adds up.
count-behind : (p : ℕ → Bool) (m k : ℕ) → count p (m + k) ≡ count p m + count (λ i. p (m + i)) k
count-behind p m zero = rw (add-zero m) (omega arith)
count-behind p m (suc k) = rw (add-suc m k, count-behind p m k) (omega arith)

module _ (a b : List ℕ) (m : ℕ) (whole : length a ≡ save_length * m) where
  -- The saves of both are those of the first and then those of the second,
  pub first_saves : (i : ℕ) → i < m → save_at (a ++ b) (suc i) ≡ save_at a (suc i)
  unfolding save_at
  first_saves i l =
      let low : save_length * (suc i - 1) ≤ length a = omega (arith, whole, l) in
      let rest : save_length ≤ length (drop (save_length * (suc i - 1)) a) = rw (length-drop (save_length * (suc i - 1)) a) (omega (arith, whole, l)) in
      rw (drop-append-le (save_length * (suc i - 1)) a b low) (take-append-le save_length (drop (save_length * (suc i - 1)) a) b rest)

  second_saves : (i : ℕ) → save_at (a ++ b) (m + suc i) ≡ save_at b (suc i)
  unfolding save_at
  second_saves i =
      let e : save_length * (m + suc i - 1) ≡ length a + save_length * (suc i - 1) = omega (arith, whole) in
      rw (e, drop-append-add a b (save_length * (suc i - 1)))

  -- so many begin,
  both_begun : begun (a ++ b) ≡ m + begun b
  unfolding begun
  both_begun = rw (length-append a b) (omega (arith, whole))

  -- and these are what they ask for.
  asked-first : (i : ℕ) → i ≤ m → asked (a ++ b) i ≡ asked a i
  unfolding asked
  asked-first zero l = refl
  asked-first (suc i) l = rw (asked-first i (omega (arith, l)), first_saves i l)

  asked_both : (k : ℕ) → asked (a ++ b) (m + k) ≡ asked a m ++ asked b k
  unfolding asked
  asked_both zero = rw (add-zero m) (asked-first m (omega arith) ∙ sym (append-nil (asked a m)))
  asked_both (suc k) = rw (add-suc m k, asked_both k, ← add-suc m k, second_saves k) (append_assoc (asked a m) (asked b k) (call b (suc k) ∷ []))

  -- Where the first all run
  module _ (runs : stops_at a ≡ 0) where
    none_first : first (stops a) m ≡ 0
    unfolding stops_at
    none_first = rw (no_more a m whole) at runs

    none_stops : first (stops (a ++ b)) m ≡ 0
    none_stops = first_cong (stops (a ++ b)) (stops a) m (λ i l. ap (λ (s : List ℕ). not (can_run s)) (first_saves i l)) ∙ none_first

    pub first_ran : ran_of a ≡ m
    unfolding ran_of
    first_ran = rw runs (no_more a m whole)

    -- the run stops where that of the second does, counted through both,
    pub stops-behind : stops_at (a ++ b) ≡ behind m (stops_at b)
    unfolding stops_at
    stops-behind =
        rw both_begun (first-behind (stops (a ++ b)) m (begun b) none_stops)
        ∙ ap (behind m) (first_cong (λ i. stops (a ++ b) (m + i)) (stops b) (begun b) (λ i l. ap (λ (s : List ℕ). not (can_run s)) (second_saves i)))

    ran_behind : ran_of (a ++ b) ≡ m + ran_of b
    unfolding ran_of
    ran_behind = rw (stops-behind, both_begun) (by (stops_at b))
      where
        by : (x : ℕ) → cond (eqb (behind m x) 0) (m + begun b) (behind m x - 1) ≡ m + cond (eqb x 0) (begun b) (x - 1)
        by zero = refl
        by (suc x) = later (behind m (suc x)) (add-suc m x)
          where
            later : (y : ℕ) → y ≡ suc (m + x) → cond (eqb y 0) (m + begun b) (y - 1) ≡ m + cond (eqb (suc x) 0) (begun b) (suc x - 1)
            later y e =
                let none : eqb (suc x) 0 ≡ false = ne_eqb (suc x) 0 (λ (h : suc x ≡ 0). omega (arith, h)) in
                rw (e, none, ne_eqb (suc (m + x)) 0 (λ (h : suc (m + x) ≡ 0). omega (arith, h))) (omega arith)

    -- counts by the saves' numbers add up,
    pub counts_add : (q : ℕ → Bool)
        → count (λ i. q (saved_number (save_at (a ++ b) i))) (ran_of (a ++ b))
        ≡ count (λ i. q (saved_number (save_at a i))) (ran_of a) + count (λ i. q (saved_number (save_at b i))) (ran_of b)
    counts_add q =
        let in_both : ℕ → Bool = λ i. q (saved_number (save_at (a ++ b) i)) in
        let e : count in_both m ≡ count (λ i. q (saved_number (save_at a i))) m
        = count_cong in_both (λ i. q (saved_number (save_at a i))) m (λ i l. ap (λ (s : List ℕ). q (saved_number s)) (first_saves i l)) in
        let f : count (λ i. in_both (m + i)) (ran_of b) ≡ count (λ i. q (saved_number (save_at b i))) (ran_of b)
        = count_cong (λ i. in_both (m + i)) (λ i. q (saved_number (save_at b i))) (ran_of b) (λ i l. ap (λ (s : List ℕ). q (saved_number s)) (second_saves i)) in
        rw (ran_behind, first_ran) (count-behind in_both m (ran_of b) ∙ rw (e, f))

    -- and the list and the sheet are those that the second leaves from what the first left.
    pub day_goes_on : (file : List ℕ) → day_after file (a ++ b) ≡ day_after (day_after file a).0 b
    unfolding day_after
    day_goes_on file =
        rw (ran_behind, first_ran, asked_both (ran_of b))
        (after_both (file, sheet_of file) (asked a m) (asked b (ran_of b))
        ∙ ap (λ (s : List ℕ). after_all ((after_all (file, sheet_of file) (asked a m)).0, s) (asked b (ran_of b))) (after_any_run (asked a m) file (sheet_of file) refl))
