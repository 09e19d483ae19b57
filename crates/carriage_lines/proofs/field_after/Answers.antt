-- `carriage_lines::field_after` meets its contract: so many fields are passed.
use mathlib.Core.Path.{◌≡◌, ap, ◌∙◌}
use Prim.Native.Nat.{ℕ, ◌-◌}
use Rattle.semicolons.specs.Lines.{before, behind}
use Rattle.carriage_lines.specs.Lines.{behind_fields}
use Rattle.carriage_lines.proofs.GivenLaws.{behind-none, behind_next, field_there}
use native.Mathlib.Omega.{arith}
use borrow.Author.Rules.{rules}
use Rattle.carriage_lines.proofs.field_after.Goals as goal

pub loop-init : goal.loop-init
loop-init c = (omega arith, omega arith, behind-none c.args.line.now)

pub loop-preserved : goal.loop-preserved
loop-preserved c =
    let line = c.args.line.now in
    (search rules, c.past-at.ensures.0, c.past-at.ensures.1 ∙ c.field_at-field.ensures.2 ∙ ap behind c.loop.invariant.2 ∙ behind_next c.loop.counter line)

pub returns : goal.returns
returns c =
    let there : c.loop.counter ≡ c.args.k = omega (arith, c.loop.invariant.0, c.loop-test.false) in
    c.field_at.ensures.0 ∙ ap before c.loop.invariant.2 ∙ ap (λ (i : ℕ). before (behind_fields i c.args.line.now)) there ∙ field_there c.args.k c.args.line.now
