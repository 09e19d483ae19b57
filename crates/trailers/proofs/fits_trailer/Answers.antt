-- `trailers::fits_trailer` meets its contract: the shape and the mark of our form.
use mathlib.Core.Path.{sym, ◌∙◌}
use Rattle.forms.specs.OwnForm.{form}
use Rattle.forms.proofs.FormLaws.{form-parts}
use Rattle.trailers.proofs.fits_trailer.Goals as goal

pub returns : goal.returns
returns c =
    c.fits_shape.ensures ∙ sym (form-parts form c.args.sheet.now c.args.n)
