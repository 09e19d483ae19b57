-- `operator_counts::heard_of` meets its contract: nothing of a station that breaks a rule, else its operator and its frequency.
use mathlib.Core.Path.{sym, ◌∙◌}
use borrow.Author.Tests.{eq-eqb, ne_eqb}
use Rattle.operator_counts.specs.Counts.{heard_at}
use Rattle.operator_counts.proofs.HeardLaws.{operator_digits, two_digits, transmit_fits}
use Rattle.operator_counts.proofs.heard_of.Goals as goal

pub returns-then-code-ne0 : goal.returns-then-code-ne0
unfolding heard_at
returns-then-code-ne0 c =
    let bad = c.if-code-ne0.true in
    sym (rw (ne_eqb _ 0 (λ z. bad (c.code.ensures ∙ z))))

pub number_of-c-requires : goal.number_of-c-requires
number_of-c-requires c =
    let good = sym c.code.ensures ∙ c.if-code-ne0.false in
    rw c.operator.ensures (two_digits _ (operator_digits c.args.file.now c.args.k good))

pub transmit-frequency-requires : goal.transmit-frequency-requires
transmit-frequency-requires c =
    (c.requires, sym c.code.ensures ∙ c.if-code-ne0.false)

pub hundredths_of-requires : goal.hundredths_of-requires
hundredths_of-requires c =
    let good = sym c.code.ensures ∙ c.if-code-ne0.false in
    rw c.transmit-frequency.ensures (transmit_fits c.args.file.now c.args.k good)

pub returns : goal.returns
unfolding heard_at
returns c =
    let good = sym c.code.ensures ∙ c.if-code-ne0.false in
    rw (eq-eqb _ 0 good, c.hundredths_of.ensures, c.transmit-frequency.ensures, c.number_of-c.ensures, c.operator.ensures)
