-- `trailers::put_trailer` meets its contract: its bytes copied behind the rows that they tell of.
use mathlib.Core.Path.{◌≡◌, ap, ◌∙◌}
use Prim.Native.Nat.{◌*◌}
use lib.ListN.{length}
use Rattle.forms.specs.Forms.{trailer_of, closed}
use Rattle.forms.proofs.CopyLaws.{back_from}
use Rattle.forms.specs.OwnForm.{row_width, trailer_length}
use Rattle.trailers.proofs.put_trailer.Goals as goal

pub returns : goal.returns
unfolding closed trailer_of
returns c =
    let s = c.args.sheet.now in
    let n = c.args.n in
    let t = c.standing_trailer-trailer.result in
    let size : length t ≡ trailer_length = ap length c.standing_trailer-trailer.ensures in
    let f : c.copy_from_slice.new.self ≡ t = c.copy_from_slice.ensures.after in
    rw f (back_from s t (row_width * n) ∙ rw c.standing_trailer-trailer.ensures)
