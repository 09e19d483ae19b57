-- `printing::pieces::places` meets its contract, bound by bound.
use mathlib.Core.Path.{sym}
use borrow.Author.Tests.{lt-ltb, le-ltb}
use Rattle.printing.specs.Lines.{places}
use borrow.Author.Rules.{rules}
use Rattle.printing.proofs.pieces.places.Goals as goal

pub returns-then-v-lt10 : goal.returns-then-v-lt10
unfolding places
returns-then-v-lt10 c = record {
  value = sym (rw (lt-ltb _ _ c.if-v-lt10.true));
  upper_bound = search rules;
}

pub returns-then-v-lt100 : goal.returns-then-v-lt100
unfolding places
returns-then-v-lt100 c = record {
  value = sym (rw (le-ltb _ _ c.if-v-lt10.false, lt-ltb _ _ c.if-v-lt100.true));
  upper_bound = search rules;
}

pub returns : goal.returns
unfolding places
returns c = record {
  value = sym (rw (le-ltb _ _ c.if-v-lt10.false, le-ltb _ _ c.if-v-lt100.false));
  upper_bound = search rules;
}
