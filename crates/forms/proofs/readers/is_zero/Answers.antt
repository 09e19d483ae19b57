-- `forms::readers::is_zero` meets its contract: the library asks the same of every byte.
use Rattle.std.proofs.Common.{rules, ◌∙◌, sym}
use lib.Dec.{eqb}
use Rattle.std.proofs.lemmas.Iterator.{YieldsList-from_slice}
use Rattle.std.proofs.lemmas.Iterator.Search.{all_from_yields_List}
use borrow.Author.Tests.{tests}
use Rattle.columns.proofs.TextLaws.{every-list_all}
use Rattle.forms.proofs.readers.is_zero.Goals as goal

pub returns : goal.returns
returns c =
    let s = c.args.text.now in
    all_from_yields_List (λ x. eqb x 0) _ _ c.all.result c.all.ensures.ran (YieldsList-from_slice s (cc)) (λ x b q k. search (rules, tests)) ∙ sym (every-list_all (λ x. eqb x 0) s)
