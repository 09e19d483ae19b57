-- `spans::height_entry` meets its contract: what is read has its range's flaw, and what is not that of its bytes.
use mathlib.Core.Path.{sym, ◌∙◌}
use mathlib.Core.Bool.{true}
use Rattle.numerals.specs.Numbers.{signed_of, admits_whole}
use Rattle.distances.specs.Distances.{height_range, height_of}
use Rattle.flaw_parts.specs.Parts.{number_reads, number_within}
use Rattle.spans.specs.Spans.{span}
use Rattle.spans.specs.Numbers.{height_entry}
use Rattle.spans.proofs.NumberLaws.{not_read, read_anew, height_said}
use Rattle.spans.proofs.height_entry.Goals as goal

pub returns-then-not-was_read : goal.returns-then-not-was_read
unfolding height_entry
returns-then-not-was_read c =
    not_read (admits_whole true) (λ q. number_reads (signed_of q)) (λ q. number_within height_range (signed_of q)) (λ q. number_within (span true c.args.low c.args.high) (signed_of q)) c.args.s.now
    c.height_flaw-flaw.result c.height_flaw-flaw.ensures c.was_read.result c.was_read.ensures c.if-not-was_read.true

pub returns : goal.returns
unfolding height_entry height_of
returns c =
    c.said_height.ensures
    ∙ rw c.read_height.ensures (sym (height_said (span true c.args.low c.args.high) (signed_of c.args.s.now)))
    ∙ read_anew (admits_whole true) (λ q. number_reads (signed_of q)) (λ q. number_within height_range (signed_of q)) (λ q. number_within (span true c.args.low c.args.high) (signed_of q)) c.args.s.now
    c.height_flaw-flaw.result c.height_flaw-flaw.ensures c.was_read.result c.was_read.ensures c.if-not-was_read.false
