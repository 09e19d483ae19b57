-- `facts::is_fact` meets its contract, fact by fact.
use native.Mathlib.Omega.{arith}
use Rattle.flaw_parts.proofs.CodeLaws.{past}
use Rattle.facts.specs.Facts.{fact_of}
use Rattle.facts.proofs.FactLaws.{no_fact}
use Rattle.facts.proofs.is_fact.Goals as goal

pub returns-in-0 : goal.returns-in-0
unfolding fact_of
returns-in-0 c = rw (c.in-0.is, c.is_blank.ensures)

pub returns-in-1 : goal.returns-in-1
unfolding fact_of
returns-in-1 c = rw (c.in-1.is, c.byte.ensures)

pub returns-in-2 : goal.returns-in-2
unfolding fact_of
returns-in-2 c = rw (c.in-2.is, c.equal.ensures)

pub returns-in-3 : goal.returns-in-3
unfolding fact_of
returns-in-3 c = rw (c.in-3.is, c.amount_in.ensures)

pub returns-in-4 : goal.returns-in-4
unfolding fact_of
returns-in-4 c = rw (c.in-4.is, c.equal-in-4.ensures)

pub returns-in-5 : goal.returns-in-5
unfolding fact_of
returns-in-5 c = rw (c.in-5.is, c.is_repeater_name.ensures)

pub returns-in_default : goal.returns-in_default
returns-in_default c = no_fact c.args.fact c.args.s.now (past 5 _ (past 4 _ (past 3 _ (past 2 _ (past 1 _ (past 0 _ (omega arith) c.in_default.in_default-own.rest.0.0.0.0.0.1) c.in_default.in_default-own.rest.0.0.0.0.1) c.in_default.in_default-own.rest.0.0.0.1) c.in_default.in_default-own.rest.0.0.1) c.in_default.in_default-own.rest.0.1) c.in_default.in_default-own.rest.1)
