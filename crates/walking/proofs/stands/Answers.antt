-- `walking::stands` meets its contract.
use Prim.Native.Nat.{◌-◌}
use mathlib.Core.Path.{◌≡◌, ap, ◌∙◌}
use borrow.Author.Tests.{ne_eqb, le-leb, lt-leb}
use Rattle.facts.specs.Facts.{fact_of}
use Rattle.walking.specs.Walks.{field_behind}
use Rattle.walking.proofs.stands.Goals as goal
use Rattle.walking.proofs.stands.Goals.{After-is_fact-told}

-- the fact of the field was told
told : (c : After-is_fact-told) → c.is_fact-told.result ≡ fact_of c.args.fact (field_behind c.args.entries.now c.args.rec.now (c.args.k - 1))
told c = c.is_fact-told.ensures ∙ ap (fact_of c.args.fact) c.field_behind.ensures

pub returns-then-k-eq0 : goal.returns-then-k-eq0
returns-then-k-eq0 c = rw c.if-k-eq0.true

pub returns-then-entries-k : goal.returns-then-entries-k
returns-then-entries-k c = rw (ne_eqb _ 0 c.if-k-eq0.false, lt-leb _ _ c.if-entries-k.true)

pub returns-then-want-eq1 : goal.returns-then-want-eq1
returns-then-want-eq1 c = rw (ne_eqb _ 0 c.if-k-eq0.false, le-leb _ _ c.if-entries-k.false, c.if-want-eq1.true) (told (goal.at.returns-then-want-eq1 c).After-is_fact-told)

pub returns-else-want-eq1 : goal.returns-else-want-eq1
returns-else-want-eq1 c = rw (ne_eqb _ 0 c.if-k-eq0.false, le-leb _ _ c.if-entries-k.false, ne_eqb _ 1 c.if-want-eq1.false, ← (told (goal.at.returns-else-want-eq1 c).After-is_fact-told))
