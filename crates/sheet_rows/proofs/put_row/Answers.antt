-- `sheet_rows::put_row` meets its contract: the row stands in its own bytes, and the others are kept.
use mathlib.Core.Path.{◌≡◌}
use Prim.Native.Nat.{◌+◌, ◌*◌, ◌-◌}
use native.Mathlib.Nat.{add-sub_cancel_left}
use lib.Seq.{drop-drop}
use Rattle.forms.specs.OwnForm.{row_width}
use Rattle.sheet_rows.proofs.put_row.Goals as goal

pub returns : goal.returns
returns c =
    let s = c.args.sheet.now in
    let start = row_width * c.args.i in
    let t = c.args.row in
    let e : start + row_width - start ≡ row_width = add-sub_cancel_left start row_width in
    let f : c.copy_from_slice.new.self ≡ t = c.copy_from_slice.ensures.after in
    rw (f, e, drop-drop row_width start s)
