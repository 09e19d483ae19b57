-- `padding::spaces_before` meets its contract.
use mathlib.Core.Path.{sym, ap}
use Rattle.semicolons.specs.Fields.{spaces_before}
use Rattle.semicolons.specs.declared.Side.{Side}
use Rattle.padding.proofs.spaces_before.Goals as goal

pub returns-in-Left : goal.returns-in-Left
unfolding spaces_before
returns-in-Left c = sym (ap (λ (s : Side). spaces_before s c.args.w c.args.n) c.in-Left.is)

pub returns-in-Right : goal.returns-in-Right
unfolding spaces_before
returns-in-Right c = sym (ap (λ (s : Side). spaces_before s c.args.w c.args.n) c.in-Right.is)

pub returns-in-Kept : goal.returns-in-Kept
unfolding spaces_before
returns-in-Kept c = sym (ap (λ (s : Side). spaces_before s c.args.w c.args.n) c.in-Kept.is)
