-- `chains::keys::same_key` meets its contract, key by key.
use mathlib.Core.Path.{◌≡◌, sym, ap, ◌∙◌}
use mathlib.Core.Bool.{Bool}
use mathlib.Core.List.{List}
use Prim.Native.Nat.{ℕ}
use Rattle.columns.specs.Texts.{same}
use Rattle.chains.specs.declared.keys.Key.{Key}
use Rattle.chains.specs.Keys.{key_at}
use Rattle.chains.proofs.keys.same_key.Goals as goal

-- the key is the one that the arm names
told : {key k : Key} (file : List ℕ) (i j : ℕ) {b : Bool} → key ≡ k → b ≡ same (key_at k file i) (key_at k file j) → b ≡ same (key_at key file i) (key_at key file j)
told file i j f e = e ∙ sym (ap (λ (x : Key). same (key_at x file i) (key_at x file j)) f)

pub returns-in-Reference : goal.returns-in-Reference
unfolding key_at
returns-in-Reference c = told _ _ _ c.in-Reference.is c.same_reference.ensures

pub returns-in-Site : goal.returns-in-Site
unfolding key_at
returns-in-Site c = told _ _ _ c.in-Site.is c.same_site.ensures
