-- `chains::keys::slot` meets its contract, key by key.
use mathlib.Core.Path.{◌≡◌, sym, ap, ◌∙◌}
use mathlib.Core.List.{List}
use Prim.Native.Nat.{ℕ, ◌%◌}
use native.Mathlib.Omega.{arith}
use lib.ListN.{length}
use Rattle.stations.proofs.StationLaws.{reference_wide}
use Rattle.chains.specs.declared.keys.Key.{Key}
use Rattle.chains.specs.Keys.{key_at, reference_slot, slot_of}
use Rattle.chains.proofs.keys.slot.Goals as goal

pub reference_slot-requires : goal.reference_slot-requires
reference_slot-requires c = ap length c.reference.ensures ∙ reference_wide _ _ c.requires

-- the key is the one that the arm names
told : {key k : Key} (file : List ℕ) (j : ℕ) {h : ℕ} → key ≡ k → h ≡ slot_of k (key_at k file j) → h ≡ slot_of key (key_at key file j)
told file j f e = e ∙ sym (ap (λ (x : Key). slot_of x (key_at x file j)) f)

pub returns-in-Reference : goal.returns-in-Reference
unfolding slot_of key_at
returns-in-Reference c = record {
  value = told _ _ c.in-Reference.is (c.reference_slot.ensures.value ∙ ap reference_slot c.reference.ensures);
  upper_bound = c.reference_slot.ensures.upper_bound;
}

pub returns-in-Site : goal.returns-in-Site
unfolding slot_of key_at
returns-in-Site c = record {
  value = told _ _ c.in-Site.is (ap (λ (w : ℕ). w % 251) c.site_number.ensures);
  upper_bound = omega arith;
}
