-- Tallies station by station: one of operator c's is added to its tally, any other leaves it as it was; and the table of all tallies as the code holds it.
use mathlib.Core.Path.{◌≡◌, refl, sym, ◌∙◌, ap}
use mathlib.Core.Bool.{Bool, true, false, cond}
use mathlib.Core.List.{List}
use Prim.Native.Nat.{ℕ, zero, suc, ◌+◌, ◌≤◌, ◌<◌}
use native.Mathlib.Nat.{add-zero}
use native.Mathlib.Numerals.{add-one}
use native.Mathlib.Omega.{arith}
use borrow.Author.Tests.{eq-eqb, ne_eqb}
use lib.Dec.{eqb}
use lib.ListN.{get_or, set}
use Rattle.forms.specs.Counting.{count}
use Rattle.forms.proofs.CountLaws.{count_most}
use Rattle.files.specs.Files.{most_stations}
use Rattle.hundredths.specs.Hundredths.{filled, lower_of, higher_of, with_one, extreme}
use Rattle.operator_counts.specs.declared.Heard.{Heard}
use Rattle.operator_counts.specs.declared.Tally.{Tally}
use Rattle.operator_counts.specs.Counts.{operators, is_of, sent_by, tally_of, added_to, no_tally, tabled}
use Rattle.operator_counts.proofs.TableLaws.{table_at, table_same, table-set}
use Rattle.std.specs.Prelude.{Option, None, Some}

-- a tally of these figures
abbrev figures : ℕ → ℕ → Option ℕ → Option ℕ → Tally
figures s t l h = record { stations = s; transmitting = t; lowest = l; highest = h }

-- figures after one station more
abbrev after : ℕ → Option Heard → ℕ → ℕ → Option ℕ → Option ℕ → Tally
after c x s t l h = figures (s + cond (is_of c x) 1 0) (t + cond (filled (sent_by c x)) 1 0) (with_one lower_of (sent_by c x) l) (with_one higher_of (sent_by c x) h)

-- what is no station of operator c's leaves them,
after_none : (s t : ℕ) (l h : Option ℕ) → figures (s + 0) (t + 0) l h ≡ figures s t l h
after_none s t l h = rw (add-zero s, add-zero t)

after_other : (c : ℕ) (x : Heard) (s t : ℕ) (l h : Option ℕ) → eqb x.operator c ≡ false → after c (Some x) s t l h ≡ figures s t l h
after_other c x s t l h e = rw e (after_none s t l h)

-- and one that is adds to them
after-own : (c : ℕ) (x : Heard) (s t : ℕ) (l h : Option ℕ) → eqb x.operator c ≡ true → after c (Some x) s t l h ≡ added_to (figures s t l h) x.transmit
unfolding added_to
after-own c x s t l h e = rw e

-- What is heard of stations, and n of them.
module _ (h : ℕ → Option Heard) (n : ℕ) where
  -- one station more, by what is heard of it
  next : (c : ℕ) → tally_of h (suc n) c ≡ after c (h (suc n)) (tally_of h n c).stations (tally_of h n c).transmitting (tally_of h n c).lowest (tally_of h n c).highest
  unfolding tally_of extreme
  next c = refl

  -- Nothing that is heard leaves every tally,
  pub tally_nothing : (c : ℕ) → h (suc n) ≡ None → tally_of h (suc n) c ≡ tally_of h n c
  tally_nothing c e = next c ∙ rw e (after_none (tally_of h n c).stations (tally_of h n c).transmitting (tally_of h n c).lowest (tally_of h n c).highest)

  -- a station leaves those of other operators,
  pub tally_other : (c : ℕ) (x : Heard) → h (suc n) ≡ Some x → (c ≡ x.operator → ⊥) → tally_of h (suc n) c ≡ tally_of h n c
  tally_other c x e o = next c ∙ ap (λ (y : Option Heard). after c y (tally_of h n c).stations (tally_of h n c).transmitting (tally_of h n c).lowest (tally_of h n c).highest) e ∙ after_other c x _ _ _ _ (ne_eqb x.operator c (λ q. o (sym q)))

  -- and is added to its own.
  pub tally_own : (x : Heard) → h (suc n) ≡ Some x → tally_of h (suc n) x.operator ≡ added_to (tally_of h n x.operator) x.transmit
  tally_own x e =
      let d = x.operator in
      next d ∙ ap (λ (y : Option Heard). after d y (tally_of h n d).stations (tally_of h n d).transmitting (tally_of h n d).lowest (tally_of h n d).highest) e ∙ after-own d x _ _ _ _ (eq-eqb d d refl)

  -- No more is counted than there are stations.
  pub stations_most : (c : ℕ) → (tally_of h n c).stations ≤ n
  unfolding tally_of
  stations_most c = count_most (λ k. is_of c (h k)) n

  pub transmitting_most : (c : ℕ) → (tally_of h n c).transmitting ≤ n
  unfolding tally_of
  transmitting_most c = count_most (λ k. filled (sent_by c (h k))) n

-- The table of all tallies of i stations, as the loop has it.
module _ (h : ℕ → Option Heard) (i : ℕ) (l : List Tally) (so_far : l ≡ tabled (tally_of h i) operators) where
  -- Nothing is heard of the next one.
  pub table_nothing : h (i + 1) ≡ None → l ≡ tabled (tally_of h (i + 1)) operators
  table_nothing e = so_far ∙ table_same (tally_of h i) (tally_of h (i + 1)) operators (λ c. sym (rw (add-one i) (tally_nothing h i c (rw (add-one i) at e))))

  -- The next one is operator d's:
  module _ (x : Heard) (e : h (i + 1) ≡ Some x) (small : x.operator < operators) where
    own : get_or l x.operator no_tally ≡ tally_of h i x.operator
    own = rw so_far (table_at (tally_of h i) no_tally operators x.operator small)

    -- its tally has room for it,
    pub tally_room : i < most_stations → ((get_or l x.operator no_tally).stations < most_stations) × ((get_or l x.operator no_tally).transmitting < most_stations)
    tally_room m = rw own (omega (arith, stations_most h i x.operator), omega (arith, transmitting_most h i x.operator))

    -- and is changed alone.
    pub table_station : (r : Tally) → r ≡ added_to (get_or l x.operator no_tally) x.transmit → set l x.operator r ≡ tabled (tally_of h (i + 1)) operators
    table_station r is =
        let e' : h (suc i) ≡ Some x = rw (add-one i) at e in
        let r-is : r ≡ tally_of h (suc i) x.operator = is ∙ ap (λ (t : Tally). added_to t x.transmit) own ∙ sym (tally_own h i x e') in
        rw (r-is, so_far, add-one i) (table-set (tally_of h i) (tally_of h (suc i)) operators x.operator no_tally (λ c o. tally_other h i c x e' o) small)
