-- `day_writing::put_day` meets its contract: digits, or spaces.
use Prim.Native.Nat.{ℕ}
use mathlib.Core.Path.{sym, ap, ◌∙◌}
use lib.ListN.{replicate}
use Rattle.days.specs.Dates.{spell_day}
use Rattle.day_writing.proofs.put_day.Goals as goal

pub returns-in-None : goal.returns-in-None
unfolding spell_day
returns-in-None c =
    c.write_blank.ensures ∙ ap (λ (n : ℕ). replicate n 32) c.requires ∙ sym (ap spell_day c.in-None.is)

pub returns-in-Some : goal.returns-in-Some
unfolding spell_day
returns-in-Some c = c.put_date.ensures ∙ sym (ap spell_day c.in-Some.is)
