-- `spans::whole_entry` meets its contract: what is read has its range's flaw, and what is not that of its bytes.
use mathlib.Core.Path.{◌∙◌}
use mathlib.Core.Bool.{true, false}
use Rattle.numerals.specs.Numbers.{whole_of, amount, admits_whole}
use Rattle.flaw_parts.specs.Parts.{whole_there}
use Rattle.spans.specs.Spans.{from_to}
use Rattle.spans.specs.Numbers.{whole_entry}
use Rattle.spans.proofs.NumberLaws.{not_read, read_anew}
use Rattle.spans.proofs.whole_entry.Goals as goal

pub returns-then-not-was_read : goal.returns-then-not-was_read
unfolding whole_entry
returns-then-not-was_read c =
    not_read (admits_whole false) whole_there (λ q. true) (λ q. from_to c.args.low c.args.high (amount (whole_of q))) c.args.s.now
    c.whole_flaw-flaw.result c.whole_flaw-flaw.ensures c.was_read.result c.was_read.ensures c.if-not-was_read.true

pub returns : goal.returns
unfolding whole_entry
returns c =
    c.range_flaw.ensures
    ∙ rw (c.is_from_to.ensures, c.amount_in.ensures)
    (read_anew (admits_whole false) whole_there (λ q. true) (λ q. from_to c.args.low c.args.high (amount (whole_of q))) c.args.s.now
    c.whole_flaw-flaw.result c.whole_flaw-flaw.ensures c.was_read.result c.was_read.ensures c.if-not-was_read.false)
