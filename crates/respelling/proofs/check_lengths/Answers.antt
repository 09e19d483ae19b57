-- `respelling::check_lengths` meets its contract.
use mathlib.Core.Path.{◌≡◌}
use native.Mathlib.Omega.{arith}
use lib.ListN.{length}
use borrow.Author.Tests.{eq-eqb, ne_eqb}
use Rattle.basics.specs.Outcomes.{first_refusal}
use Rattle.respelling.proofs.check_lengths.Goals as goal

pub returns-then-rec-ne-RECORD_LENGTH : goal.returns-then-rec-ne-RECORD_LENGTH
unfolding first_refusal
returns-then-rec-ne-RECORD_LENGTH c = rw (ne_eqb _ _ c.if-rec-ne-RECORD_LENGTH.true)

pub returns-then-out-ne-RECORD_LENGTH : goal.returns-then-out-ne-RECORD_LENGTH
unfolding first_refusal
returns-then-out-ne-RECORD_LENGTH c =
    let whole : length c.args.rec.now ≡ 219 = omega arith in
    rw (eq-eqb (length c.args.rec.now) 219 whole, ne_eqb _ _ c.if-out-ne-RECORD_LENGTH.true)

pub returns : goal.returns
unfolding first_refusal
returns c = rw (eq-eqb _ _ c.if-rec-ne-RECORD_LENGTH.false, eq-eqb _ _ c.if-out-ne-RECORD_LENGTH.false)
