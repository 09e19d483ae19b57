-- `emissions::is_emission` meets its contract: each return rewrites with the tests on its way.
use borrow.Author.Tests.{eq-eqb, ne_eqb}
use Rattle.emissions.specs.Emission.{emission_good}
use Rattle.columns.proofs.AnswerLaws.{passed, failed}
use Rattle.emissions.proofs.is_emission.Goals as goal

pub returns-then-s-ne9 : goal.returns-then-s-ne9
unfolding emission_good
returns-then-s-ne9 c = rw (ne_eqb _ _ c.if-s-ne9.true)

pub returns-then-not-is_bandwidth : goal.returns-then-not-is_bandwidth
unfolding emission_good
returns-then-not-is_bandwidth c = rw (eq-eqb _ _ c.if-s-ne9.false, failed c.is_bandwidth.ensures c.if-not-is_bandwidth.true-raw)

pub returns-then-not-is_modulation : goal.returns-then-not-is_modulation
unfolding emission_good
returns-then-not-is_modulation c =
    rw (eq-eqb _ _ c.if-s-ne9.false, passed c.is_bandwidth.ensures c.if-not-is_bandwidth.false-raw, failed c.is_modulation.ensures c.if-not-is_modulation.true-raw)

pub returns-then-not-is_signal : goal.returns-then-not-is_signal
unfolding emission_good
returns-then-not-is_signal c =
    rw (eq-eqb _ _ c.if-s-ne9.false, passed c.is_bandwidth.ensures c.if-not-is_bandwidth.false-raw, passed c.is_modulation.ensures c.if-not-is_modulation.false-raw, failed c.is_signal.ensures c.if-not-is_signal.true-raw)

pub returns-then-not-is_information : goal.returns-then-not-is_information
unfolding emission_good
returns-then-not-is_information c =
    rw (eq-eqb _ _ c.if-s-ne9.false, passed c.is_bandwidth.ensures c.if-not-is_bandwidth.false-raw, passed c.is_modulation.ensures c.if-not-is_modulation.false-raw, passed c.is_signal.ensures c.if-not-is_signal.false-raw, failed c.is_information.ensures c.if-not-is_information.true-raw)

pub returns : goal.returns
unfolding emission_good
returns c =
    rw (eq-eqb _ _ c.if-s-ne9.false, passed c.is_bandwidth.ensures c.if-not-is_bandwidth.false-raw, passed c.is_modulation.ensures c.if-not-is_modulation.false-raw, passed c.is_signal.ensures c.if-not-is_signal.false-raw, passed c.is_information.ensures c.if-not-is_information.false-raw) c.is_end.ensures
