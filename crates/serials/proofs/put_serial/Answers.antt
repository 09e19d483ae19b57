-- `serials::put_serial` meets its contract, by its two cases.
use mathlib.Core.Path.{ap, ◌∙◌}
use Prim.Native.Nat.{ℕ}
use lib.ListN.{replicate}
use Rattle.numerals.specs.Numbers.{spell_whole}
use Rattle.serials.specs.Serials.{spell_serial}
use Rattle.serials.proofs.put_serial.Goals as goal

pub returns-in-None : goal.returns-in-None
unfolding spell_serial
returns-in-None c = rw c.in-None.is (c.write_blank.ensures ∙ ap (λ (n : ℕ). replicate n 32) c.requires)

pub returns-in-Some : goal.returns-in-Some
unfolding spell_serial
returns-in-Some c = rw c.in-Some.is (c.put_whole.ensures ∙ ap (λ (n : ℕ). spell_whole n c.in-Some.n) c.requires)
