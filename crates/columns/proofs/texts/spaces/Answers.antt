-- `columns::texts::spaces` meets its contract: as many spaces as stand first are counted, and they are skipped.
use Rattle.std.proofs.Common.{rules, ℕ, Bool, true, false, ◌≡◌, List, [], ◌∷◌, ◌∙◌, drop, refl, one-add}
use lib.Dec.{eqb}
use Rattle.std.specs.List.{prefix_len}
use Rattle.std.proofs.lemmas.Iterator.{YieldsList-from_slice}
use Rattle.std.proofs.lemmas.Iterator.Search.{YieldsList-from_take_while}
use Rattle.std.proofs.lemmas.Iterator.Consumers.{count_from_yields_List}
use Rattle.std.proofs.lemmas.List.Folds.{length-prefix_len}
use Rattle.std.proofs.lemmas.List.Sums.{prefix_len-le-length}
use borrow.Author.Tests.{tests}
use Rattle.columns.specs.Texts.{skip}
use Rattle.columns.proofs.texts.spaces.Goals as goal

-- what is skipped is the spaces that stand first
skipped : (s : List ℕ) → skip s ≡ drop (prefix_len (λ x. eqb x 32) s) s
unfolding skip
skipped [] = refl
skipped (x ∷ s) = by (skipped s) (eqb x 32) refl where
  by : skip s ≡ drop (prefix_len (λ x. eqb x 32) s) s → (b : Bool) → eqb x 32 ≡ b → skip (x ∷ s) ≡ drop (prefix_len (λ x. eqb x 32) (x ∷ s)) (x ∷ s)
  by h true e = rw (e, one-add) h
  by h false e = rw e

pub returns : goal.returns
returns c =
    let s = c.args.s.now in
    let given = YieldsList-from_take_while _ (λ x. eqb x 32) (YieldsList-from_slice s (cc)) (cc) (cc) (λ x b q k. search (rules, tests)) in
    let e = count_from_yields_List c.take_while.result c.count.result c.count.ensures.ran given ∙ length-prefix_len (λ x. eqb x 32) s in
    rw e (prefix_len-le-length (λ x. eqb x 32) s, skipped s)
