-- Chains, over any search: the first bearer of a key is found down the chain of its slot, and how a station goes in front.
use mathlib.Core.Path.{◌≡◌, refl, sym, ap, subst, ◌∙◌}
use mathlib.Core.Logic.{⊎_elim, dite}
use mathlib.Core.Bool.{Bool, true, false, cond, true≢false, and-eq-true_iff, and-false}
use mathlib.Core.List.{List}
use Prim.Native.Nat.{ℕ, zero, suc, ◌-◌, ◌≤◌, ◌<◌}
use native.Mathlib.Nat.{le_refl, eq-or-lt_of_le}
use native.Mathlib.Decide.{ℕ_discrete}
use native.Mathlib.Omega.{arith}
use lib.ListN.{length, get_or, set, replicate, length-set, length-replicate, get_or-replicate}
use lib.Seq.{get_or-set_same, get_or-set_other}
use lib.Dec.{eqb}
use borrow.Author.Tests.{eq-eqb, eqb-true, ne_eqb}
use Rattle.columns.specs.Texts.{same}
use Rattle.columns.proofs.SameLaws.{same_true}
use Rattle.forms.specs.Counting.{or_else, first}
use Rattle.forms.proofs.CountLaws.{first_cong}
use Rattle.chains.specs.declared.chaining.Chain.{Chain}
use Rattle.chains.specs.Chains.{Search, last, bears, first_bearer, leads, chained, slots, record_numbers, Linked, Chains}

-- The highest that passes is not above n,
pub last_most : (p : ℕ → Bool) (n : ℕ) → last p n ≤ n
last_most p zero = le_refl 0
last_most p (suc n) = by_case (p (suc n)) (last_most p n)
  where
    by_case : (b : Bool) → last p n ≤ n → cond b (suc n) (last p n) ≤ suc n
    by_case true h = le_refl (suc n)
    by_case false h = omega arith

-- passes,
pub last-passes : (p : ℕ → Bool) (n : ℕ) → 1 ≤ last p n → p (last p n) ≡ true
last-passes p zero l = absurd (omega arith)
last-passes p (suc n) l = by_case (p (suc n)) refl (last-passes p n) l
  where
    by_case : (b : Bool) → p (suc n) ≡ b → (1 ≤ last p n → p (last p n) ≡ true) → 1 ≤ cond b (suc n) (last p n) → p (cond b (suc n) (last p n)) ≡ true
    by_case true e ih h = e
    by_case false e ih h = ih h

-- and is the next one that passes, or the one before.
last_here : (p : ℕ → Bool) (n : ℕ) → p (suc n) ≡ true → last p (suc n) ≡ suc n
last_here p n e = rw e

last_past : (p : ℕ → Bool) (n : ℕ) → p (suc n) ≡ false → last p (suc n) ≡ last p n
last_past p n e = rw e

-- What was found stays found,
or_first : (x y : ℕ) → (x ≡ 0 → ⊥) → or_else x y ≡ x
or_first zero y h = absurd (h refl)
or_first (suc x) y h = refl

pub first-kept : (p : ℕ → Bool) (m : ℕ) → (first p m ≡ 0 → ⊥) → first p (suc m) ≡ first p m
first-kept p m n = or_first (first p m) _ n

-- one that passes after none is the first,
pub first_here : (p : ℕ → Bool) (m : ℕ) → first p m ≡ 0 → p (suc m) ≡ true → first p (suc m) ≡ suc m
first_here p m e h = rw (e, h)

-- and one that does not pass changes nothing.
or_zero : (x : ℕ) → or_else x 0 ≡ x
or_zero zero = refl
or_zero (suc x) = refl

pub first_past : (p : ℕ → Bool) (m : ℕ) → p (suc m) ≡ false → first p (suc m) ≡ first p m
first_past p m h = rw h (or_zero (first p m))

module _ (s : Search) where
  -- Who bears a key takes part, and has it;
  module _ (k i : ℕ) where
    pub bears_takes : bears s k i ≡ true → s.takes i ≡ true
    unfolding bears
    bears_takes b = ((and-eq-true_iff (s.takes i) (same (s.key i) (s.key k))).0 b).0

    pub bears-key : bears s k i ≡ true → s.key i ≡ s.key k
    unfolding bears
    bears-key b = same_true (s.key i) (s.key k) ((and-eq-true_iff (s.takes i) (same (s.key i) (s.key k))).0 b).1

    pub bears-same : s.takes i ≡ true → same (s.key i) (s.key k) ≡ true → bears s k i ≡ true
    unfolding bears
    bears-same t e = rw (t, e)

    pub bears_other : same (s.key i) (s.key k) ≡ false → bears s k i ≡ false
    unfolding bears
    bears_other e = rw e (and-false (s.takes i))

    pub bears_out : s.takes i ≡ false → bears s k i ≡ false
    unfolding bears
    bears_out e = rw e

  -- stations with one key have the same bearers.
  pub bears_like : (j k i : ℕ) → s.key j ≡ s.key k → bears s j i ≡ bears s k i
  unfolding bears
  bears_like j k i e = rw e

  module _ (j : ℕ) where
    -- A station leads if it takes part and has no bearer before it,
    pub is_leading : s.takes j ≡ true → first_bearer s j ≡ 0 → leads s j ≡ true
    unfolding leads
    is_leading t e = rw (t, eq-eqb (first_bearer s j) 0 e)

    pub leads_takes : leads s j ≡ true → s.takes j ≡ true
    unfolding leads
    leads_takes l = ((and-eq-true_iff (s.takes j) (eqb (first_bearer s j) 0)).0 l).0

    pub leads-first : leads s j ≡ true → first_bearer s j ≡ 0
    unfolding leads
    leads-first l = eqb-true (first_bearer s j) 0 ((and-eq-true_iff (s.takes j) (eqb (first_bearer s j) 0)).0 l).1

    pub out_leads_none : s.takes j ≡ false → leads s j ≡ false
    unfolding leads
    out_leads_none e = rw e

    pub later_leads_none : (first_bearer s j ≡ 0 → ⊥) → leads s j ≡ false
    unfolding leads
    later_leads_none n = rw (ne_eqb (first_bearer s j) 0 n) (and-false (s.takes j))

    module _ (h : ℕ) where
      -- and is then in the chain of its slot and in no other.
      pub is_chained : leads s j ≡ true → s.slot (s.key j) ≡ h → chained s h j ≡ true
      unfolding chained
      is_chained l e = rw (l, eq-eqb (s.slot (s.key j)) h e)

      pub chained-leads : chained s h j ≡ true → leads s j ≡ true
      unfolding chained
      chained-leads on = ((and-eq-true_iff (leads s j) (eqb (s.slot (s.key j)) h)).0 on).0

      own_slot : chained s h j ≡ true → s.slot (s.key j) ≡ h
      unfolding chained
      own_slot on = eqb-true (s.slot (s.key j)) h ((and-eq-true_iff (leads s j) (eqb (s.slot (s.key j)) h)).0 on).1

      unchained : leads s j ≡ false → chained s h j ≡ false
      unfolding chained
      unchained e = rw e

      other_slot : (s.slot (s.key j) ≡ h → ⊥) → chained s h j ≡ false
      unfolding chained
      other_slot n = rw (ne_eqb (s.slot (s.key j)) h n) (and-false (leads s j))

  module _ (k : ℕ) where
    -- the first bearer before a station with the key of k
    bearer_like : (m : ℕ) → s.key (suc m) ≡ s.key k → first_bearer s (suc m) ≡ first (bears s k) m
    unfolding first_bearer
    bearer_like m e = let d : suc m - 1 ≡ m = omega arith in rw d (first_cong (bears s (suc m)) (bears s k) m (λ i l. bears_like (suc m) k (suc i) e))

    -- a station outside the chain of k's slot is not the first with k's key
    first_outside : (m : ℕ) → chained s (s.slot (s.key k)) (suc m) ≡ false → first (bears s k) (suc m) ≡ first (bears s k) m
    first_outside m out = by_case (bears s k (suc m)) refl
      where
        by_case : (b : Bool) → bears s k (suc m) ≡ b → first (bears s k) (suc m) ≡ first (bears s k) m
        by_case false e = first_past (bears s k) m e
        by_case true e =
            let one : s.key (suc m) ≡ s.key k = bears-key k (suc m) e in
            first-kept (bears s k) m (λ none. true≢false (sym (is_chained (suc m) (s.slot (s.key k)) (is_leading (suc m) (bears_takes k (suc m) e) (bearer_like m one ∙ none)) (ap s.slot one)) ∙ out))

    -- so the search can go down the chain
    first-last : (m : ℕ) → first (bears s k) m ≡ first (bears s k) (last (chained s (s.slot (s.key k))) m)
    first-last zero = refl
    first-last (suc m) = by_case (chained s (s.slot (s.key k)) (suc m)) refl (first-last m)
      where
        by_case : (b : Bool) → chained s (s.slot (s.key k)) (suc m) ≡ b
            → first (bears s k) m ≡ first (bears s k) (last (chained s (s.slot (s.key k))) m)
            → first (bears s k) (suc m) ≡ first (bears s k) (cond b (suc m) (last (chained s (s.slot (s.key k))) m))
        by_case true e ih = refl
        by_case false e ih = first_outside m e ∙ ih

    -- A station that leads k's key is its first bearer.
    pub first_hit : (j : ℕ) → 1 ≤ j → leads s j ≡ true → same (s.key j) (s.key k) ≡ true → first (bears s k) j ≡ j
    first_hit zero l on hit = absurd (omega arith)
    first_hit (suc m) l on hit =
        first_here (bears s k) m (sym (bearer_like m (same_true (s.key (suc m)) (s.key k) hit)) ∙ leads-first (suc m) on) (bears-same k (suc m) (leads_takes (suc m) on) hit)

    -- From a station of k's chain without k's key the search goes on at the next one,
    pub first_miss : (nexts : List ℕ) (j : ℕ) → 1 ≤ j → j < k → Linked s nexts (k - 1) → chained s (s.slot (s.key k)) j ≡ true → same (s.key j) (s.key k) ≡ false
        → (get_or nexts j 0 < j) × (first (bears s k) (get_or nexts j 0) ≡ first (bears s k) j)
        × (1 ≤ get_or nexts j 0 → chained s (s.slot (s.key k)) (get_or nexts j 0) ≡ true)
    unfolding Linked
    first_miss nexts zero l b links on miss = absurd (omega arith)
    first_miss nexts (suc m) l b links on miss =
        let p = chained s (s.slot (s.key k)) in
        let e : get_or nexts (suc m) 0 ≡ last p m = links m (s.slot (s.key k)) (omega arith) on in
        let down : last p m ≤ m = last_most p m in
        (omega arith, rw e (sym (first-last m) ∙ sym (first_past (bears s k) m (bears_other k (suc m) miss))), rw e (last-passes p m))

    -- and it starts at the chain's highest.
    pub first_start : first_bearer s k ≡ first (bears s k) (last (chained s (s.slot (s.key k))) (k - 1))
    unfolding first_bearer
    first_start = first-last (k - 1)

  -- Before any station no chain has one.
  pub none-chained : Chains s (record { heads = replicate slots 0; nexts = replicate record_numbers 0 }) 0
  unfolding Linked
  none-chained =
      record {
        heads_size = length-replicate {A = ℕ} slots 0;
        nexts_size = length-replicate {A = ℕ} record_numbers 0;
        tops = λ h l. get_or-replicate {A = ℕ} slots h 0 0 l;
        links = λ i h l on. absurd (omega arith);
      }

  module _ (chain : Chain) (m : ℕ) (so_far : Chains s chain m) where
    -- A station that does not lead stays outside,
    pub stays_out : leads s (suc m) ≡ false → Chains s chain (suc m)
    unfolding Linked
    stays_out n =
        record {
          heads_size = so_far.heads_size;
          nexts_size = so_far.nexts_size;
          tops = λ h l. so_far.tops h l ∙ sym (last_past (chained s h) m (unchained (suc m) h n));
          links = λ i h l on.
              ⊎_elim (λ q. let e : suc i ≡ suc m = q in absurd (true≢false (sym (chained-leads (suc m) h (rw e at on)) ∙ n)))
              (λ b. let b' : suc i < suc m = b in so_far.links i h (omega arith) on) (eq-or-lt_of_le l);
        }

    -- and one that leads goes in front.
    pub goes_in_front : leads s (suc m) ≡ true → suc m < record_numbers → s.slot (s.key (suc m)) < slots
        → Chains s (record { heads = set chain.heads (s.slot (s.key (suc m))) (suc m); nexts = set chain.nexts (suc m) (get_or chain.heads (s.slot (s.key (suc m))) 0) }) (suc m)
    unfolding Linked
    goes_in_front on-lead fits small =
        let h₀ : ℕ = s.slot (s.key (suc m)) in
        let rh : h₀ < length chain.heads = omega (arith, so_far.heads_size) in
        let rn : suc m < length chain.nexts = omega (arith, so_far.nexts_size) in
        record {
          heads_size = length-set chain.heads h₀ (suc m) ∙ so_far.heads_size;
          nexts_size = length-set chain.nexts (suc m) (get_or chain.heads h₀ 0) ∙ so_far.nexts_size;
          tops = λ h l.
              dite (ℕ_discrete h h₀)
              (λ e.
              subst (λ (x : ℕ). get_or (set chain.heads h₀ (suc m)) x 0 ≡ last (chained s x) (suc m)) (sym e)
              (get_or-set_same chain.heads h₀ (suc m) 0 rh ∙ sym (last_here (chained s h₀) m (is_chained (suc m) h₀ on-lead refl))))
              (λ ne. get_or-set_other chain.heads h₀ h (suc m) 0 ne ∙ so_far.tops h l ∙ sym (last_past (chained s h) m (other_slot (suc m) h (λ q. ne (sym q)))));
          links = λ i h l on.
              ⊎_elim
              (λ q. let w : suc i ≡ suc m = q in
              let e : i ≡ m = omega arith in
              let own : h₀ ≡ h = own_slot (suc m) h (rw e at on) in
              rw e (get_or-set_same chain.nexts (suc m) (get_or chain.heads h₀ 0) 0 rn ∙ so_far.tops h₀ small ∙ ap (λ x. last (chained s x) m) own))
              (λ b. let b' : suc i < suc m = b in
              get_or-set_other chain.nexts (suc m) (suc i) (get_or chain.heads h₀ 0) 0 (λ q. absurd (omega arith)) ∙ so_far.links i h (omega arith) on)
              (eq-or-lt_of_le l);
        }

  -- The same at station k, where those before it are chained.
  module _ (chain : Chain) where
    pub left_out : (k : ℕ) → 1 ≤ k → Chains s chain (k - 1) → leads s k ≡ false → Chains s chain k
    left_out zero l so_far n = absurd (omega arith)
    left_out (suc m) l so_far n = let d : suc m - 1 ≡ m = omega arith in stays_out chain m (rw d at so_far) n

    pub put_in_front : (k h : ℕ) → 1 ≤ k → Chains s chain (k - 1) → h ≡ s.slot (s.key k) → h < slots → leads s k ≡ true → k < record_numbers
        → Chains s (record { heads = set chain.heads h k; nexts = set chain.nexts k (get_or chain.heads h 0) }) k
    put_in_front zero h l so_far e small on fits = absurd (omega arith)
    put_in_front (suc m) h l so_far e small on fits =
        let d : suc m - 1 ≡ m = omega arith in
        rw e (goes_in_front chain m (rw d at so_far) on fits (rw e at small))
