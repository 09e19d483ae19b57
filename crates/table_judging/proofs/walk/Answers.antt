-- `table_judging::walk` meets its contract: the fields, and where none is broken the rows above them.
use Prim.Native.Nat.{◌+◌, ◌≤◌}
use mathlib.Core.Path.{sym, ◌∙◌}
use native.Mathlib.Omega.{arith}
use lib.ListN.{length}
use Rattle.walking.specs.Walks.{flaws_by}
use Rattle.walking.specs.Promises.{Walked}
use Rattle.walking.proofs.WalkLaws.{flaws_many, rules_many, with_above, rows_above, from_fields, from_rows}
use Rattle.table_judging.proofs.walk.Goals as goal

pub returns-then-found-ne0 : goal.returns-then-found-ne0
unfolding Walked
returns-then-found-ne0 c = (from_fields c.first_flaw-found.result.code _ _ c.first_flaw-found.ensures.0 c.if-found-ne0.true, c.first_flaw-found.ensures.1)

pub returns-then-code-eq0 : goal.returns-then-code-eq0
unfolding Walked
returns-then-code-eq0 c =
    (c.if-found-ne0.false ∙ sym c.if-code-eq0.true ∙ c.first_row-code.ensures ∙ from_rows c.first_flaw-found.result.code _ _ c.first_flaw-found.ensures.0 c.if-found-ne0.false, c.first_flaw-found.ensures.1)

pub returns : goal.returns
unfolding Walked
returns c =
    let es = c.args.entries.now in
    let r = c.args.rec.now in
    let ws = c.args.rows.now in
    let above : length es + 1 ≤ c.first_row-code.result = rw c.first_row-code.ensures (rows_above es r (length es + 1) 255 ws (λ z. c.if-code-eq0.false (c.first_row-code.ensures ∙ z))) in (
      c.first_row-code.ensures ∙ from_rows c.first_flaw-found.result.code _ _ c.first_flaw-found.ensures.0 c.if-found-ne0.false,
      with_above (flaws_by es r ws) c.first_row-code.result (omega (arith, above, rules_many (flaws_by es r ws), flaws_many es r ws)),
    )
