-- A trace may be cut after any save that runs: what is before the cut are whole saves that all run.
use mathlib.Core.Path.{◌≡◌, refl, sym, ap, ◌∙◌}
use mathlib.Core.Bool.{Bool, true, false, cond, not}
use mathlib.Core.List.{List, ◌++◌}
use Prim.Native.Nat.{ℕ, zero, suc, ◌+◌, ◌-◌, ◌*◌, ◌≤◌, ◌<◌}
use native.Mathlib.Omega.{arith}
use lib.Dec.{eqb}
use lib.ListN.{length, take, drop, take-append-drop}
use lib.Seq.{length-take-le}
use native.Mathlib.Nat.{add-zero, add-suc}
use borrow.Author.Tests.{ne_eqb, not-false}
use Rattle.forms.specs.Counting.{or_else, first}
use Rattle.forms.proofs.CountLaws.{first_cong}
use Rattle.traces.specs.Traces.{save_length, save_at, can_run, begun, stops_at, ran_of}
use Rattle.traces.proofs.TraceLaws.{stops, no_more, runs_within}
use Rattle.trace_runs.proofs.GoingOn.{first_saves}

-- A search that finds none finds none among fewer,
none_lower : (p : ℕ → Bool) (n : ℕ) → first p (suc n) ≡ 0 → (first p n ≡ 0) × (p (suc n) ≡ false)
none_lower p n e = by (first p n) (p (suc n)) e
  where
    by : (x : ℕ) (b : Bool) → or_else x (cond b (suc n) 0) ≡ 0 → (x ≡ 0) × (b ≡ false)
    by zero true h = absurd (omega (arith, h))
    by zero false h = (refl, refl)
    by (suc x) b h = absurd (omega (arith, h))

none_below : (p : ℕ → Bool) (k m : ℕ) → first p (m + k) ≡ 0 → first p m ≡ 0
none_below p zero m e = rw (add-zero m) at e
none_below p (suc k) m e = none_below p k m (none_lower p (m + k) (rw (add-suc m k) at e)).0

-- and one that finds a number finds none before it.
none_before : (p : ℕ → Bool) (n i : ℕ) → first p n ≡ suc i → first p i ≡ 0
none_before p zero i e = absurd (omega (arith, e))
none_before p (suc n) i e = by (first p n) (p (suc n)) refl (none_before p n i) e
  where
    by : (x : ℕ) (b : Bool) → first p n ≡ x → (first p n ≡ suc i → first p i ≡ 0) → or_else x (cond b (suc n) 0) ≡ suc i → first p i ≡ 0
    by zero true h lower f = let same : n ≡ i = omega (arith, f) in rw same at h
    by zero false h lower f = absurd (omega (arith, f))
    by (suc x) b h lower f = lower (h ∙ f)

-- None of the saves that run stops the run.
none_stops : (trace : List ℕ) → first (stops trace) (ran_of trace) ≡ 0
unfolding ran_of stops_at
none_stops trace = by (first (stops trace) (begun trace)) refl
  where
    by : (x : ℕ) → first (stops trace) (begun trace) ≡ x → first (stops trace) (cond (eqb x 0) (begun trace) (x - 1)) ≡ 0
    by zero e = e
    by (suc i) e =
        let none : eqb (suc i) 0 ≡ false = ne_eqb (suc i) 0 (λ (h : suc i ≡ 0). omega (arith, h)) in
        let back : suc i - 1 ≡ i = omega arith in
        rw (none, back) (none_before (stops trace) (begun trace) i e)

module _ (trace : List ℕ) (m : ℕ) (ran : m ≤ ran_of trace) where
  none_so_far : first (stops trace) m ≡ 0
  none_so_far = let e : m + (ran_of trace - m) ≡ ran_of trace = omega (arith, ran) in none_below (stops trace) (ran_of trace - m) m (rw e (none_stops trace))

  within : (k : ℕ) → first (stops trace) k ≡ 0 → save_length * k ≤ length trace
  unfolding save_at
  within zero e = omega arith
  within (suc k) e =
      let lower = none_lower (stops trace) k e in
      let low = within k lower.0 in
      let back : suc k - 1 ≡ k = omega arith in
      let runs : can_run (take save_length (drop (save_length * k) trace)) ≡ true = rw back at (not-false (can_run (save_at trace (suc k))) lower.1) in
      let room = runs_within trace (save_length * k) low runs in
      omega (arith, room)

  pub cut-whole : length (take (save_length * m) trace) ≡ save_length * m
  cut-whole = length-take-le (save_length * m) trace (within m none_so_far)

  pub cut_runs : stops_at (take (save_length * m) trace) ≡ 0
  unfolding stops_at
  cut_runs =
      let a = take (save_length * m) trace in
      let b = drop (save_length * m) trace in
      let both : a ++ b ≡ trace = take-append-drop (save_length * m) trace in
      rw (no_more a m cut-whole)
      (first_cong (stops a) (stops trace) m (λ i l. ap (λ (s : List ℕ). not (can_run s)) (sym (first_saves a b m cut-whole i l) ∙ ap (λ (t : List ℕ). save_at t (suc i)) both))
      ∙ none_so_far)
