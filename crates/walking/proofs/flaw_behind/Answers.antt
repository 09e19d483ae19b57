-- `walking::flaw_behind` meets its contract.
use Prim.Native.Nat.{ℕ}
use mathlib.Core.Path.{◌≡◌, sym, ap, ◌∙◌}
use Rattle.flaws.specs.Flaws.{flawless}
use Rattle.entries.specs.Entries.{entry_flaw}
use Rattle.walking.specs.Walks.{cell, said_behind}
use Rattle.walking.proofs.WalkLaws.{no_unit, unit_flawed, unit_asked}
use Rattle.walking.proofs.flaw_behind.Goals as goal
use Rattle.walking.proofs.flaw_behind.Goals.{After-entry_flaw-said}

-- what the entry says by itself
told : (c : After-entry_flaw-said) → c.entry_flaw-said.result ≡ said_behind c.args.entries.now c.args.rec.now c.args.i
told c =
    let number : ℕ → ℕ = cell c.args.entries.now c.args.i in
    c.entry_flaw-said.ensures ∙ ap (entry_flaw (number 2) (number 1) (number 3) (number 4) (number 5)) c.field_behind.ensures

pub returns-then-kind-ne6 : goal.returns-then-kind-ne6
returns-then-kind-ne6 c =
    (told (goal.at.returns-then-kind-ne6 c).After-entry_flaw-said) ∙ no_unit c.args.entries.now c.args.rec.now c.args.rows.now c.args.i c.if-kind-ne6.true

pub returns-then-not-is_flawless : goal.returns-then-not-is_flawless
returns-then-not-is_flawless c =
    (told (goal.at.returns-then-not-is_flawless c).After-entry_flaw-said)
    ∙ unit_flawed c.args.entries.now c.args.rec.now c.args.rows.now c.args.i c.if-kind-ne6.false
    (sym (ap flawless (told (goal.at.returns-then-not-is_flawless c).After-entry_flaw-said)) ∙ sym c.is_flawless.ensures ∙ c.if-not-is_flawless.true)

pub returns : goal.returns
returns c =
    c.range_flaw.ensures
    ∙ rw c.first_row.ensures
    (unit_asked c.args.entries.now c.args.rec.now c.args.rows.now c.args.i c.if-kind-ne6.false
    (sym (ap flawless (told (goal.at.returns c).After-entry_flaw-said)) ∙ sym c.is_flawless.ensures ∙ c.if-not-is_flawless.false))
