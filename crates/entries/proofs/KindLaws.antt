-- The flaw of a kind, kind by kind, and where the entry and its kind differ about blank.
use mathlib.Core.Path.{◌≡◌, refl, sym, ap, ◌∙◌}
use mathlib.Core.Bool.{Bool, true, false, cond, beq}
use mathlib.Core.List.{List}
use Prim.Native.Nat.{ℕ, ◌≤◌}
use native.Mathlib.Omega.{arith}
use lib.Dec.{ltb, eqb}
use lib.ListN.{length, get_or, get_or-eq_default}
use Rattle.columns.specs.Texts.{blank}
use Rattle.flaws.specs.declared.Flaw.{Flaw}
use Rattle.flaws.specs.declared.Flaw.TheVariants as flaw
use Rattle.entries.specs.Entries.{kinds, kind_flaw, entry_flaw}

-- above the kinds there is none
pub no_kind : (k w low high : ℕ) (p : List ℕ) → 20 ≤ k → flaw.Shape ≡ kind_flaw k w low high p
unfolding kind_flaw
no_kind k w low high p h = sym (ap (λ (f : ℕ → ℕ → ℕ → List ℕ → Flaw). f w low high p) (get_or-eq_default kinds (λ w low high p. flaw.Shape) h))

-- what the entry says of blank, by three tests
pub allowed_told : (k w low high allowed : ℕ) (p : List ℕ) (b t a : Bool) → blank p ≡ b → ltb k 7 ≡ t → eqb allowed 1 ≡ a
    → cond b (cond t (cond a (kind_flaw k w low high p) flaw.Shape) (cond a flaw.None (kind_flaw k w low high p))) (kind_flaw k w low high p) ≡ entry_flaw k w low high allowed p
unfolding entry_flaw
allowed_told k w low high allowed p b t a e f g = rw (e, f, g) (by b t a (kind_flaw k w low high p)) where
  by : (b t a : Bool) (x : Flaw) → cond b (cond t (cond a x flaw.Shape) (cond a flaw.None x)) x ≡ cond (beq t a) x (cond b (cond a flaw.None flaw.Shape) x)
  by true true true x = refl
  by true true false x = refl
  by true false true x = refl
  by true false false x = refl
  by false true true x = refl
  by false true false x = refl
  by false false true x = refl
  by false false false x = refl
