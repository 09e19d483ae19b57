-- The walk down a chain, whoever takes part.
use mathlib.Core.Path.{◌≡◌, sym, ap, ◌∙◌}
use mathlib.Core.Bool.{Bool, true, false}
use mathlib.Core.List.{List}
use Prim.Native.Nat.{ℕ, ◌-◌, ◌≤◌, ◌<◌}
use native.Mathlib.Omega.{arith}
use lib.ListN.{get_or}
use Rattle.columns.specs.Texts.{same}
use Rattle.forms.specs.Counting.{first}
use Rattle.chains.specs.declared.chaining.Chain.{Chain}
use Rattle.chains.specs.declared.keys.Key.{Key}
use Rattle.chains.specs.Chains.{slots, last, bears, first_bearer, chained, Chains}
use Rattle.chains.specs.Keys.{key_at, slot_of, lookup, Begun, Startable}
use Rattle.chains.proofs.ChainLaws.{last_most, last-passes, chained-leads, first_start, first_hit, first_miss}

-- A chain begins at the highest of its slot.
pub chain_begun : (key : Key) (file : List ℕ) (chain : Chain) (k h : ℕ) → h ≡ slot_of key (key_at key file k) → h < slots → (who : ℕ → Bool) → Chains (lookup key who file) chain (k - 1)
    → Begun key file chain.nexts (get_or chain.heads h 0) k who
chain_begun key file chain k h e small who chains =
    record { links = chains.links; top = chains.tops h small ∙ ap (λ (x : ℕ). last (chained (lookup key who file) x) (k - 1)) e }

module _ (key : Key) (file nexts : List ℕ) (start k : ℕ) where
  -- What is known at station j of the way: what is searched for is found from there on.
  abbrev pub Way : ℕ → Type 0
  Way j =
      (who : ℕ → Bool) → Begun key file nexts start k who
      → (j < k) × (first (bears (lookup key who file) k) j ≡ first_bearer (lookup key who file) k)
      × (1 ≤ j → chained (lookup key who file) (slot_of key (key_at key file k)) j ≡ true)

  pub way_begins : 1 ≤ k → Way start
  way_begins positive who b =
      let s = lookup key who file in
      let p = chained s (slot_of key (key_at key file k)) in
      let e : start ≡ last p (k - 1) = b.top in
      let l : last p (k - 1) ≤ k - 1 = last_most p (k - 1) in
      (omega arith, rw e (sym (first_start s k)), rw e (last-passes p (k - 1)))

  module _ (startable : Startable key file nexts start k) (j : ℕ) (way : Way j) where
    pub way_below : j < k
    way_below = (way startable.who startable.begun).0

    pub way_less : 1 ≤ j → same (key_at key file j) (key_at key file k) ≡ false → get_or nexts j 0 < j
    way_less l miss =
        let w = way startable.who startable.begun in
        (first_miss (lookup key startable.who file) k nexts j l w.0 startable.begun.links (w.2 l) miss).0

  module _ (j : ℕ) (way : Way j) (l : 1 ≤ j) where
    pub way_hit : same (key_at key file j) (key_at key file k) ≡ true → (who : ℕ → Bool) → Begun key file nexts start k who → j ≡ first_bearer (lookup key who file) k
    way_hit hit who b =
        let s = lookup key who file in
        let w = way who b in
        sym (first_hit s k j l (chained-leads s j (slot_of key (key_at key file k)) (w.2 l)) hit) ∙ w.1

    pub way_miss : same (key_at key file j) (key_at key file k) ≡ false → Way (get_or nexts j 0)
    way_miss miss who b =
        let w = way who b in
        let m = first_miss (lookup key who file) k nexts j l w.0 b.links (w.2 l) miss in
        let below : get_or nexts j 0 < j = m.0 in
        let low : j < k = w.0 in
        (omega arith, m.1 ∙ w.1, m.2)
