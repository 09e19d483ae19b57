-- `replacing::records::put_record` meets its contract: 219 bytes copied into their own place.
use mathlib.Core.Path.{◌≡◌, ◌∙◌}
use Prim.Native.Nat.{◌+◌, ◌-◌, ◌*◌}
use lib.ListN.{length}
use lib.Seq.{drop-drop}
use borrow.Rule.Slice.PartMut.{mid_len, mid_of}
use Rattle.files.specs.Files.{with_record}
use Rattle.forms.proofs.CopyLaws.{copy_all}
use native.Mathlib.Omega.{arith}
use borrow.Author.Rules.{rules}
use Rattle.replacing.proofs.records.put_record.Goals as goal

pub returns : goal.returns
unfolding with_record
returns c =
    let y = c.copy_from_slice.new.self in
    let e : 219 * c.args.k + 219 - 219 * c.args.k ≡ 219 = omega arith in
    let f : y ≡ c.args.rec.now = c.copy_from_slice.ensures.after in
    rw (f, e, drop-drop 219 (219 * c.args.k) c.args.file.now)
