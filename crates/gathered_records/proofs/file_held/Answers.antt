-- `gathered_records::file_held` meets its contract.
use native.Mathlib.Omega.{arith}
use mathlib.Core.Path.{sym}
use lib.Seq.{take_all, length-take-le}
use Rattle.gathered_records.proofs.file_held.Goals as goal

pub returns-then-buffer-held : goal.returns-then-buffer-held
returns-then-buffer-held c =
    rw (take_all c.args.held c.args.buffer.now (omega (arith, c.if-buffer-held.true))) c.line_to_record.ensures

pub slice_bounds-line_to_record-end : goal.slice_bounds-line_to_record-end
slice_bounds-line_to_record-end c =
    sym (length-take-le c.args.held c.args.buffer.now c.if-buffer-held.false)
