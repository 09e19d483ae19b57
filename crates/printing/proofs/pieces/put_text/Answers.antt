-- `printing::pieces::put_text` meets its contract: the text copied into a part of the lent bytes, put back.
use mathlib.Core.Path.{◌≡◌, refl, ◌∙◌}
use Prim.Native.Nat.{◌+◌, ◌-◌}
use native.Mathlib.Nat.{add-sub_cancel_left}
use lib.ListN.{length}
use borrow.Rule.Slice.PartMut.{mid_len, mid_of}
use Rattle.forms.proofs.CopyLaws.{copy_all}
use Rattle.printing.proofs.AppendLaws.{put_in}
use Rattle.printing.proofs.pieces.put_text.Goals as goal

pub returns : goal.returns
returns c =
    let out = c.args.out.now in
    let text = c.args.text.now in
    put_in out text _ c.args.start (length text) refl c.requires c.copy_from_slice.ensures.after
