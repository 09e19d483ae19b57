-- `line_parts::hold` meets its contract: a full buffer stays as it was, and in any other the part is put behind what is held.
use native.Mathlib.Omega.{arith}
use Rattle.gathering.proofs.PartLaws.{nothing_fits, part_fits, copy_room}
use Rattle.line_parts.proofs.hold.Goals as goal

pub copy_from_slice-requires : goal.copy_from_slice-requires
copy_from_slice-requires c = copy_room c.args.buffer.now c.args.part.now c.args.held _ c.sum_to-end.ensures

pub returns-then-buffer-held : goal.returns-then-buffer-held
returns-then-buffer-held c = record {
  value = omega (arith, c.if-buffer-held.true);
  buffer_after = nothing_fits c.args.buffer.now c.args.part.now c.args.held c.if-buffer-held.true;
}

pub returns : goal.returns
returns c = record {
  value = c.sum_to-end.ensures;
  buffer_after = part_fits c.args.buffer.now c.args.part.now c.args.held _ c.sum_to-end.ensures _ c.copy_from_slice.ensures.after c.if-buffer-held.false;
}
