-- `joining::put_first` meets its contract.
use mathlib.Core.Path.{◌≡◌, sym, ◌∙◌}
use lib.ListN.{length, take}
use lib.Seq.{length-take-le}
use Rattle.joining.proofs.OutLaws.{first-put}
use native.Mathlib.Omega.{arith}
use Rattle.joining.proofs.put_first.Goals as goal

pub slice_bounds-put_text-end : goal.slice_bounds-put_text-end
slice_bounds-put_text-end c = sym (length-take-le _ _ c.requires.0)

pub put_text-requires : goal.put_text-requires
put_text-requires c =
    let size : length (take c.args.n c.args.text.now) ≡ c.args.n = length-take-le c.args.n c.args.text.now c.requires.0 in
    omega (arith, size, c.requires.1)

pub returns : goal.returns
returns c =
    c.put_text.ensures ∙ first-put c.args.out.now c.args.text.now c.args.n c.requires.0
