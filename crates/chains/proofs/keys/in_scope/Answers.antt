-- `chains::keys::in_scope` meets its contract: all, the one, the other.
use borrow.Author.Tests.{eq-eqb, ne_eqb}
use Rattle.chains.specs.Scopes.{in_scope}
use Rattle.chains.proofs.keys.in_scope.Goals as goal

pub returns-then-scope : goal.returns-then-scope
unfolding in_scope
returns-then-scope c = rw c.if-scope.true

pub returns-then-site-scope : goal.returns-then-site-scope
unfolding in_scope
returns-then-site-scope c = rw (c.if-scope.false, eq-eqb _ _ c.if-site-scope.true)

pub returns : goal.returns
unfolding in_scope
returns c = rw (c.if-scope.false, ne_eqb _ _ c.if-site-scope.false)
