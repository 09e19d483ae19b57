-- `replacing::records::replace_header` meets its contract: the record, then the trailer.
use mathlib.Core.Path.{ap, ◌∙◌}
use lib.ListN.{take}
use Prim.Native.Nat.{ℕ, ◌*◌}
use Rattle.forms.specs.OwnForm.{with_trailer, row_width}
use Rattle.mending.specs.Replacing.{mended_sheet}
use Rattle.replacing.proofs.records.replace_header.Goals as goal

pub returns : goal.returns
unfolding mended_sheet
returns c = record {
  file_after = c.put_record.ensures;
  sheet_after = c.put_trailer.ensures ∙ ap (λ (head : ℕ). with_trailer c.args.n head (take (row_width * c.args.n) c.args.sheet.now)) c.filed_header_code-head.ensures;
}
