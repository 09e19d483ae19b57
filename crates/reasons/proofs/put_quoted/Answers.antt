-- `reasons::put_quoted` meets its contract: the bytes between two quotation marks.
use Rattle.printing.proofs.AppendLaws.{then}
use Rattle.reasons.proofs.ReasonLaws.{part_is, part_length}
use native.Mathlib.Omega.{arith}
use Rattle.reasons.proofs.put_quoted.Goals as goal

pub returns : goal.returns
returns c =
    let r = c.args.rec.now in
    let wide = part_length r c.args.from c.args.len c.requires.0 in
    record {
      appended = then c.put_text-quote.ensures (then (rw (part_is r c.args.from c.args.len) at c.put_text-end.ensures) c.put_text.ensures);
      upper_bound = omega (arith, c.put_text-quote.ensures.ends, c.put_text-end.ensures.ends, c.put_text.ensures.ends, wide, c.requires.2);
    }
