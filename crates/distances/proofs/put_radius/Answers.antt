-- `distances::put_radius` meets its contract: it is the writer of whole numbers.
use Prim.Native.Nat.{ℕ}
use mathlib.Core.Path.{ap, ◌∙◌}
use Rattle.numerals.specs.Numbers.{spell_whole}
use Rattle.distances.specs.Distances.{spell_radius}
use Rattle.distances.proofs.put_radius.Goals as goal

pub returns : goal.returns
unfolding spell_radius
returns c =
    c.put_whole.ensures ∙ ap (λ (n : ℕ). spell_whole n c.args.v.0) c.requires
