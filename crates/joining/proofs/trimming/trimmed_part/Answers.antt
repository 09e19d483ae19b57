-- `joining::trimming::trimmed_part` meets its contract.
use mathlib.Core.Path.{sym, ap, ◌∙◌}
use lib.Seq.{length-take-le}
use Rattle.columns.specs.Texts.{trimmed}
use Rattle.columns.proofs.TextLaws.{from_on}
use Rattle.joining.proofs.trimming.trimmed_part.Goals as goal

pub slice_bounds-result-end : goal.slice_bounds-result-end
slice_bounds-result-end c = sym (length-take-le _ _ c.trimmed_length-n.ensures.0)

pub returns : goal.returns
returns c =
    let field = c.args.field.now in
    sym c.trimmed_length-n.ensures.1 ∙ ap trimmed (from_on field c.spaces-first.result ∙ sym c.spaces-first.ensures.1)
