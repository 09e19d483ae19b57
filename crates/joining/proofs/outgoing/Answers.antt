-- `joining::outgoing` meets its contract.
use mathlib.Core.Path.{sym, ap, ◌∙◌}
use Rattle.semicolons.specs.Fields.{trimmed_field}
use Rattle.semicolons.specs.declared.Side.{Side}
use Rattle.joining.proofs.outgoing.Goals as goal

pub returns-in-Left : goal.returns-in-Left
unfolding trimmed_field
returns-in-Left c = c.trimmed_part.ensures ∙ sym (ap (λ (s : Side). trimmed_field s c.args.field.now) c.in-Left.is)

pub returns-in-Right : goal.returns-in-Right
unfolding trimmed_field
returns-in-Right c = c.trimmed_part-in-Right.ensures ∙ sym (ap (λ (s : Side). trimmed_field s c.args.field.now) c.in-Right.is)

pub returns-in-Kept : goal.returns-in-Kept
unfolding trimmed_field
returns-in-Kept c = sym (ap (λ (s : Side). trimmed_field s c.args.field.now) c.in-Kept.is)
