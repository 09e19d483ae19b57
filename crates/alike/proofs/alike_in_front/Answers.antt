-- `alike::alike_in_front` meets its contract: the pairs of equal bytes that stand first are counted.
use Rattle.std.proofs.Common.{rules, ℕ, Bool, ◌≡◌, List, [], ◌∷◌, ◌∙◌, sym, refl, one-add}
use lib.Dec.{eqb}
use Rattle.std.specs.List.{zip, prefix_len}
use Rattle.std.proofs.lemmas.Iterator.{YieldsList-from_slice, YieldsList-from_zip}
use Rattle.std.proofs.lemmas.Iterator.Search.{YieldsList-from_take_while}
use Rattle.std.proofs.lemmas.Iterator.Consumers.{count_from_yields_List}
use Rattle.std.proofs.lemmas.List.Folds.{length-prefix_len}
use borrow.Author.Tests.{tests}
use Rattle.alike.specs.Alike.{alike}
use Rattle.alike.proofs.alike_in_front.Goals as goal

-- the two bytes of a pair are equal
abbrev paired : ℕ × ℕ → Bool
paired p = eqb p.0 p.1

-- as many bytes are alike as pairs of equal ones stand first
pairs_alike : (a b : List ℕ) → alike a b ≡ prefix_len paired (zip a b)
unfolding alike
pairs_alike [] b = refl
pairs_alike (x ∷ a) [] = refl
pairs_alike (x ∷ a) (y ∷ b) = rw (pairs_alike a b, one-add)

pub returns : goal.returns
returns c =
    let a = c.args.a.now in
    let b = c.args.b.now in
    let given = YieldsList-from_take_while _ paired (YieldsList-from_zip (YieldsList-from_slice a (cc)) (YieldsList-from_slice b (cc))) (cc) (cc) (λ x r q k. search (rules, tests)) in
    count_from_yields_List c.take_while.result c.count.result c.count.ensures.ran given ∙ length-prefix_len paired (zip a b) ∙ sym (pairs_alike a b)
