-- `entries::all_between` meets its contract: the library asks the same of every byte.
use Rattle.std.proofs.Common.{rules, ℕ, Bool, ◌&&◌, ◌∙◌, sym}
use lib.Dec.{leb}
use Rattle.std.proofs.lemmas.Iterator.{YieldsList-from_slice}
use Rattle.std.proofs.lemmas.Iterator.Search.{all_from_yields_List}
use borrow.Author.Tests.{tests}
use Rattle.columns.proofs.TextLaws.{every-list_all}
use Rattle.entries.proofs.all_between.Goals as goal

pub returns : goal.returns
returns c =
    let s = c.args.s.now in
    let test : ℕ → Bool = λ x. leb c.args.low x && leb x c.args.high in
    all_from_yields_List test _ _ c.all.result c.all.ensures.ran (YieldsList-from_slice s (cc)) (λ x b q k. search (rules, tests)) ∙ sym (every-list_all test s)
