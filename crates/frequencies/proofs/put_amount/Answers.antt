-- `frequencies::put_amount` meets its contract: digits, a point and digits, or spaces.
use Prim.Native.Nat.{ℕ}
use mathlib.Core.Path.{sym, ap, ◌∙◌}
use lib.ListN.{replicate}
use Rattle.decimals.specs.Decimals.{spell_decimal}
use Rattle.frequencies.specs.Frequencies.{spell_amount}
use Rattle.frequencies.proofs.put_amount.Goals as goal

pub returns-in-None : goal.returns-in-None
unfolding spell_amount
returns-in-None c =
    c.write_blank.ensures ∙ ap (λ (n : ℕ). replicate n 32) c.requires ∙ sym (ap spell_amount c.in-None.is)

pub returns-in-Some : goal.returns-in-Some
unfolding spell_amount spell_decimal
returns-in-Some c =
    c.put_magnitude.ensures ∙ sym (ap spell_amount c.in-Some.is)
