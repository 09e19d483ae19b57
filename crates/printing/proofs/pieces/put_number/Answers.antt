-- `printing::pieces::put_number` meets its contract: the digits written into a part of the lent bytes, put back.
use mathlib.Core.Path.{◌≡◌, sym, ◌∙◌}
use Prim.Native.Nat.{◌+◌, ◌-◌, ◌≤◌}
use native.Mathlib.Nat.{add-sub_cancel_left}
use lib.ListN.{length}
use borrow.Rule.Slice.PartMut.{mid_len, mid_of}
use Rattle.printing.specs.Lines.{decimal}
use Rattle.printing.proofs.AppendLaws.{put_in}
use Rattle.printing.proofs.LineLaws.{decimal-length}
use native.Mathlib.Omega.{arith}
use borrow.Author.Rules.{rules}
use Rattle.printing.proofs.pieces.put_number.Goals as goal

pub returns : goal.returns
unfolding decimal
returns c =
    let out = c.args.out.now in
    let k = c.places.result in
    let size = c.places.ensures.value in
    let room : c.args.start + k ≤ length out = omega (arith, c.places.ensures.upper_bound) in
    let l : length (mid_of c.args.start (c.args.start + k - c.args.start) out) ≡ k = mid_len c.args.start (c.args.start + k) out room ∙ add-sub_cancel_left c.args.start k in
    record {
      appended = put_in out (decimal c.args.v) _ c.args.start k (decimal-length c.args.v ∙ sym size) room (c.put_whole.ensures ∙ rw (l, size));
      upper_bound = search rules;
    }
