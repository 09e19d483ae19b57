-- `trailers::trailer_bytes` meets its contract.
use mathlib.Core.Path.{refl}
use Rattle.forms.specs.Forms.{trailer_of}
use Rattle.trailers.proofs.trailer_bytes.Goals as goal

pub returns : goal.returns
unfolding trailer_of
returns c = refl
