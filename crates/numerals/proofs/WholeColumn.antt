-- Whole numbers are a kind of column, over the digit count; and spaces are no number.
use mathlib.Core.Path.{◌≡◌, ◌∙◌}
use mathlib.Core.Bool.{Bool, true, not, ◌&&◌}
use mathlib.Core.List.{List, [], ◌∷◌}
use Prim.Native.Nat.{ℕ, suc, ◌^◌, ◌≤◌, ◌<◌}
use native.Mathlib.Omega.{arith}
use native.Mathlib.Nat.{pow-le-pow_right, one-le-pow, zero-add}
use lib.Dec.{eqb}
use lib.ListN.{length, drop, replicate}
use borrow.Author.Tests.{ltb-true, lt-ltb}
use Rattle.columns.specs.Texts.{ended, skip}
use Rattle.numerals.specs.Numbers.{leading, number_from, whole_digits, whole_of, whole_filled, amount, number_of, spell_whole, whole_fits}
use Rattle.columns.proofs.TextLaws.{cond_case, skip-spaces}
use Rattle.numerals.proofs.NumberLaws.{leading_inside, leading_digits, number_below}
use Rattle.numerals.proofs.RoundTrip.{spelled_length, whole_trip}
use Rattle.columns.proofs.ColumnLaws.{Column}
use Rattle.std.specs.Prelude.{Option, Some, None, Result, Ok}
use Rattle.numerals.specs.declared.Unread.{Unread}

skip_shorter : (p : List ℕ) → length (skip p) ≤ length p
unfolding skip
skip_shorter [] = omega arith
skip_shorter (c ∷ p) = cond_case (λ (l : List ℕ). length l ≤ suc (length p)) (eqb c 32) (λ e. omega (arith, skip_shorter p)) (λ e. omega arith)

-- what is read in k columns has no more than k digits
pub whole_below : (p : List ℕ) → amount (whole_of p) < 10 ^ length p
unfolding whole_of whole_digits
whole_below p =
    let t = skip p in
    let l = leading 18 t in
    let some : 1 ≤ 10 ^ length p = one-le-pow (length p) 10 (omega arith) in
    let more : 10 ^ length l ≤ 10 ^ length p = pow-le-pow_right {n = 10} (omega arith) {i = length l} {j = length p} (omega (arith, leading_inside 18 t, skip_shorter p)) in
    let said : number_from 0 l < 10 ^ length l = rw zero-add at (number_below 0 0 l (leading_digits 18 t) (omega arith)) in
    cond_case (λ (w : Result (Option ℕ) Unread). amount w < 10 ^ length p) (ended t) (λ e. some)
    (λ e. cond_case (λ (w : Result (Option ℕ) Unread). amount w < 10 ^ length p) (not (ended l) && ended (drop (length l) t)) (λ f. omega arith) (λ f. some))

module _ (k : ℕ) (one : 1 ≤ k) (few : k ≤ 18) where
  spelled_whole : (v : ℕ) → whole_fits k v ≡ true → whole_of (spell_whole k v) ≡ Ok (Some v)
  spelled_whole v e = whole_trip k v one few (ltb-true v (10 ^ k) e)

  pub whole_column : Column k (λ p. whole_filled (whole_of p)) (λ p. amount (whole_of p)) (whole_fits k) (spell_whole k)
  whole_column = record {
    wide = λ v e. spelled_length k v [] ∙ omega arith;
    kept = λ v e. rw (spelled_whole v e);
    back = λ v e. rw (spelled_whole v e);
    read = λ p l e. lt-ltb (amount (whole_of p)) (10 ^ k) (rw l at (whole_below p));
  }

-- spaces are no number
pub number_of_spaces : (sign : Bool) (S : ℕ → Bool) (d : List ℕ → Result (Option ℕ) Unread) (n : ℕ) → number_of sign S d (replicate n 32) ≡ Ok None
number_of_spaces sign S d n = rw (skip-spaces n)
