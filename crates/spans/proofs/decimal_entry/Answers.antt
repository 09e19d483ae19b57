-- `spans::decimal_entry` meets its contract: what is read has its range's flaw, and what is not that of its bytes.
use mathlib.Core.Path.{sym, ◌∙◌}
use Rattle.formats.specs.Tenths.{tenths_of}
use Rattle.formats.specs.Formats.{may_sign, format_of}
use Rattle.fields.specs.Table.{range_of}
use Rattle.decimals.specs.Decimals.{admits_decimal}
use Rattle.flaw_parts.specs.Parts.{number_reads, number_within}
use Rattle.spans.specs.Spans.{span}
use Rattle.spans.specs.Numbers.{decimal_entry}
use Rattle.spans.proofs.NumberLaws.{not_read, read_anew, tenths_said}
use Rattle.spans.proofs.decimal_entry.Goals as goal

pub returns-then-not-was_read : goal.returns-then-not-was_read
unfolding decimal_entry
returns-then-not-was_read c =
    let f = c.args.format in
    not_read (admits_decimal (may_sign f)) (λ q. number_reads (format_of f q)) (λ q. number_within (range_of f) (format_of f q)) (λ q. number_within (span (may_sign f) c.args.low c.args.high) (format_of f q)) c.args.s.now
    c.tenths_flaw-flaw.result c.tenths_flaw-flaw.ensures c.was_read.result c.was_read.ensures c.if-not-was_read.true

pub returns : goal.returns
unfolding decimal_entry tenths_of
returns c =
    let f = c.args.format in
    c.said_tenths.ensures
    ∙ rw (c.read_tenths.ensures, c.requires) (sym (tenths_said (span (may_sign f) c.args.low c.args.high) (format_of f c.args.s.now)))
    ∙ read_anew (admits_decimal (may_sign f)) (λ q. number_reads (format_of f q)) (λ q. number_within (range_of f) (format_of f q)) (λ q. number_within (span (may_sign f) c.args.low c.args.high) (format_of f q)) c.args.s.now
    c.tenths_flaw-flaw.result c.tenths_flaw-flaw.ensures c.was_read.result c.was_read.ensures c.if-not-was_read.false
