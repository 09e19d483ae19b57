-- What entered stations tell of the next one: its twin, its clash and so its row; and how one more is entered.
use mathlib.Core.Path.{◌≡◌, refl, sym, ap, ◌∙◌}
use mathlib.Core.Bool.{Bool, true, false, cond, ◌&&◌, and-false}
use mathlib.Core.List.{List, [], ◌∷◌}
use Prim.Native.Nat.{ℕ, suc, ◌+◌, ◌-◌}
use native.Mathlib.Decide.{ℕ_discrete}
use native.Mathlib.Omega.{arith}
use lib.Dec.{eqb}
use lib.ListN.{take, drop}
use borrow.Author.Tests.{eq-eqb, ne_eqb}
use Rattle.columns.specs.Texts.{same}
use Rattle.columns.proofs.SameLaws.{same_true}
use Rattle.words.specs.Words.{word_of}
use Rattle.stations.specs.Stations.{code_at, reference_at, site_at}
use Rattle.forms.specs.Counting.{first}
use Rattle.forms.specs.Forms.{row_bytes}
use Rattle.forms.specs.OwnForm.{form}
use Rattle.forms.proofs.CountLaws.{first_cong}
use Rattle.chains.specs.declared.chaining.Chain.{Chain}
use Rattle.chains.specs.declared.keys.Scope.{Scope}
use Rattle.chains.specs.Chains.{bears, first_bearer}
use Rattle.chains.specs.Keys.{key_at}
use Rattle.chains.specs.Scopes.{in_scope}
use Rattle.chains.proofs.ChainLaws.{out_leads_none, left_out}
use Rattle.sites.specs.declared.KeptSites.{KeptSites}
use Rattle.sites.specs.Sites.{GoodTakesPart, first_elsewhere}
use Rattle.sites.proofs.SiteLaws.{site_out}
use Rattle.clashes.specs.Clashes.{clash_at}
use Rattle.clashes.proofs.ClashLaws.{own-broken, own_good}
use Rattle.sheet.specs.Sheets.{twin_at, row_of}
use Rattle.sheet.specs.Entered.{by_reference, good_of, scoped, Entered}

module _ (file : List ℕ) (parts : ℕ → Bool) where
  -- A station that takes part is looked up by its site if it breaks no rule.
  pub good_part : (k : ℕ) → parts k ≡ true → GoodTakesPart file (good_of file parts) k
  good_part k here = rw here

  module _ (closed : (i j : ℕ) → site_at file i ≡ site_at file j → parts i ≡ parts j) (k : ℕ) (here : parts k ≡ true) where
    -- who bears the 13X of one that takes part takes part
    bears_so : (i : ℕ) → bears (by_reference parts file) k i ≡ same (reference_at file i) (reference_at file k)
    unfolding bears key_at site_at
    bears_so i = by_case (same (reference_at file i) (reference_at file k)) refl
      where
        by_case : (b : Bool) → same (reference_at file i) (reference_at file k) ≡ b → (parts i && same (reference_at file i) (reference_at file k)) ≡ same (reference_at file i) (reference_at file k)
        by_case true e = rw (closed i k (ap (λ (x : List ℕ). take 6 (drop 5 x)) (same_true (reference_at file i) (reference_at file k) e)), here)
        by_case false e = rw (e, and-false (parts i))

    -- Its twin is the first bearer of its 13X that takes part,
    twin_so : first_bearer (by_reference parts file) k ≡ twin_at file k
    unfolding first_bearer twin_at
    twin_so = first_cong (bears (by_reference parts file) k) (λ i. same (reference_at file i) (reference_at file k)) (k - 1) (λ i l. bears_so (suc i))

    -- its clash the first that stands elsewhere, if it breaks no rule,
    clash_so : (own elsewhere : ℕ) → own ≡ code_at file k → elsewhere ≡ first_elsewhere file (good_of file parts) k → cond (eqb own 0) elsewhere 0 ≡ clash_at file k
    clash_so own elsewhere eo ee = by_case (ℕ_discrete own 0)
      where
        by_case : Dec (own ≡ 0) → cond (eqb own 0) elsewhere 0 ≡ clash_at file k
        by_case (yes z) = rw (eq-eqb own 0 z) (ee ∙ own_good file k (good_of file parts) (λ i e. good_part i (closed i k e ∙ here)) (sym eo ∙ z))
        by_case (no n) = rw (ne_eqb own 0 n) (own-broken file k (λ z. n (eo ∙ z)))

    -- and so its row.
    pub row_so : (own twin elsewhere clash : ℕ) → own ≡ code_at file k → twin ≡ first_bearer (by_reference parts file) k → elsewhere ≡ first_elsewhere file (good_of file parts) k → clash ≡ cond (eqb own 0) elsewhere 0
        → row_bytes form own (twin ∷ clash ∷ []) ≡ row_of file k
    unfolding row_of
    row_so own twin elsewhere clash eo et ee ec =
        let e1 : twin ≡ twin_at file k = et ∙ twin_so in
        let e2 : clash ≡ clash_at file k = ec ∙ clash_so own elsewhere eo ee in
        rw (eo, e1, e2)

  -- A station that does not take part leaves all as it was.
  pub entered_out : (chain : Chain) (found : KeptSites) (i : ℕ) → parts (i + 1) ≡ false → Entered file parts chain found i → Entered file parts chain found (i + 1)
  entered_out chain found i out so_far =
      let d : i + 1 - 1 ≡ i = omega arith in
      record {
        closed = so_far.closed;
        kept = so_far.kept;
        references = left_out (by_reference parts file) chain (i + 1) (omega arith) (rw d so_far.references) (out_leads_none (by_reference parts file) (i + 1) out);
        sites = site_out file (good_of file parts) (i + 1) (omega arith) found (rw out) (rw d so_far.sites);
      }

-- With one station all of its site are in scope.
pub scope_closed : (scope : Scope) (file : List ℕ) (i j : ℕ) → site_at file i ≡ site_at file j → scoped scope file i ≡ scoped scope file j
scope_closed scope file i j e = ap (λ (x : List ℕ). in_scope scope (word_of x)) e
