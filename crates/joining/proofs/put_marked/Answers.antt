-- `joining::put_marked` meets its contract.
use Rattle.joining.proofs.OutLaws.{marked_behind}
use Rattle.joining.proofs.put_marked.Goals as goal

pub returns : goal.returns
returns c =
    marked_behind c.args.out.now _ c.args.text.now c.args.at c.args.mark c.requires c.put_text.ensures
