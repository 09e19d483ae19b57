-- `mending::rows::mend_rows` meets its contract: the rows of the old site and the new one.
use native.Mathlib.Omega.{arith}
use Rattle.mending.proofs.RowsMended.{touched-written}
use Rattle.mending.proofs.rows.mend_rows.Goals as goal

pub returns : goal.returns
returns c = let all = touched-written c.args.file.now c.args.old.now c.args.k
    (λ i. omega (arith, c.shared_slice_known-1.given i))
    (λ i. omega (arith, c.shared_slice_known-2-1.given i))
    c.requires.k_le_n.1 (omega (arith, c.requires)) c.args.n (omega (arith, c.requires)) _ _ _ c.args.sheet.now _
    c.word_of_six.ensures c.site_number.ensures c.put_rows.ensures.value c.put_rows.ensures.sheet_after in record {
      value = all.0;
      sheet_after = all.1;
    }
