-- `padding::put_text` meets its contract.
use Rattle.padding.proofs.PutLaws.{put_back}
use Rattle.padding.proofs.put_text.Goals as goal

pub returns : goal.returns
returns c =
    put_back c.args.out.now c.args.text.now _ c.args.start c.requires c.write_text.ensures.s_after
