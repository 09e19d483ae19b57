-- `distances::put_height` meets its contract: digits with their sign, or spaces.
use Prim.Native.Nat.{ℕ}
use mathlib.Core.Path.{sym, ap, ◌∙◌}
use lib.ListN.{replicate}
use Rattle.distances.specs.Distances.{spell_height}
use Rattle.numerals.proofs.Signs.{in_bits}
use Rattle.distances.proofs.put_height.Goals as goal

pub returns-in-None : goal.returns-in-None
unfolding spell_height
returns-in-None c =
    c.write_blank.ensures ∙ ap (λ (n : ℕ). replicate n 32) c.requires ∙ sym (ap spell_height c.in-None.is)

pub returns-in-Some : goal.returns-in-Some
unfolding spell_height
returns-in-Some c =
    c.put_signed.ensures ∙ rw (c.requires, in_bits c.in-Some.m.0 c.struct_told-1.given.0.1, c.in-Some.is)
