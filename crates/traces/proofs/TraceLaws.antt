-- A trace as the saves that begin in it: how many run, and what they ask for one after the other.
use mathlib.Core.Path.{◌≡◌, refl, sym, ap, ◌∙◌}
use mathlib.Core.Bool.{Bool, true, false, cond, not}
use mathlib.Core.List.{List, [], ◌∷◌, ◌++◌}
use Prim.Native.Nat.{ℕ, suc, ◌+◌, ◌-◌, ◌*◌, ◌/◌, ◌≤◌, ◌<◌}
use native.Mathlib.Omega.{arith}
use native.Mathlib.Numerals.{add-one}
use lib.Dec.{eqb}
use lib.ListN.{length, take, drop, length-drop}
use lib.Seq.{take_all}
use native.Mathlib.Decide.{dec_le}
use native.Mathlib.Nat.{lt_of_not-le}
use Rattle.columns.proofs.TextLaws.{and_split}
use borrow.Author.Tests.{ne_eqb, eqb-true}
use Rattle.forms.specs.Counting.{first}
use Rattle.forms.proofs.CountLaws.{first_found}
use Rattle.traces.specs.Traces.{save_length, save_at, saved_number, saved_record, can_run, begun, stops_at, ran_of, asked}

-- Save i stops a run.
abbrev pub stops : List ℕ → ℕ → Bool
stops trace i = not (can_run (save_at trace i))

-- What save i asks for.
abbrev pub call : List ℕ → ℕ → ℕ × List ℕ
call trace i = (saved_number (save_at trace i), saved_record (save_at trace i))

pub asked_one : (trace : List ℕ) (i : ℕ) → asked trace (i + 1) ≡ asked trace i ++ (call trace (i + 1) ∷ [])
unfolding asked
asked_one trace i = rw (add-one i)

-- The save that begins after i whole ones,
pub save-after : (trace : List ℕ) (i at : ℕ) → at ≡ save_length * i → take save_length (drop at trace) ≡ save_at trace (i + 1)
unfolding save_at
save-after trace i at e = let x : i + 1 - 1 ≡ i = omega arith in rw (e, x)

-- is one of those that begin,
pub one_more : (trace : List ℕ) (i : ℕ) → save_length * i < length trace → i < begun trace
unfolding begun
one_more trace i h = omega (arith, h)

-- and behind whole saves alone none is left.
pub no_more : (trace : List ℕ) (i : ℕ) → length trace ≡ save_length * i → begun trace ≡ i
unfolding begun
no_more trace i e = omega (arith, e)

-- Where save i + 1 is the first that stops the run, i saves run,
module _ (trace : List ℕ) (i : ℕ) (none : first (stops trace) i ≡ 0) where
  pub stopped_there : i < begun trace → can_run (save_at trace (i + 1)) ≡ false → (i + 1 ≡ stops_at trace) × (i ≡ ran_of trace)
  unfolding stops_at ran_of
  stopped_there l bad =
      let e : i + 1 ≡ first (stops trace) (begun trace) = first_found (stops trace) (begun trace) i none l (rw bad) in
      let s : first (stops trace) (begun trace) ≡ suc i = sym e ∙ add-one i in
      (e, ran (first (stops trace) (begun trace)) s)
    where
      ran : (x : ℕ) → x ≡ suc i → i ≡ cond (eqb x 0) (begun trace) (x - 1)
      ran x h = rw (h, ne_eqb (suc i) 0 (λ (e : suc i ≡ 0). omega (arith, e))) (omega arith)

  -- and where none stops it, all that begin.
  pub ran_all : begun trace ≡ i → (0 ≡ stops_at trace) × (i ≡ ran_of trace)
  unfolding stops_at ran_of
  ran_all e = (rw (e, none), rw (e, none))

-- A save that runs is whole, so that the trace has its bytes.
pub save-whole : (save : List ℕ) → can_run save ≡ true → length save ≡ save_length
unfolding can_run
save-whole save e = eqb-true (length save) save_length (and_split _ _ e).0

pub runs_within : (trace : List ℕ) (at : ℕ) → at ≤ length trace → can_run (take save_length (drop at trace)) ≡ true → at + save_length ≤ length trace
runs_within trace at low runs =
    let l = length-drop at trace in
    let w = save-whole (take save_length (drop at trace)) runs in
    elim (dec_le save_length (length (drop at trace))) [
      | yes h ↦ omega (arith, l, h, low)
      | no h ↦ omega (arith, lt_of_not-le h, ap length (take_all save_length (drop at trace) (omega (arith, lt_of_not-le h))), w)
    ]
