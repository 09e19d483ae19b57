-- `tenths::put_tenths` meets its contract: a decimal in the format of its field, or spaces.
use Prim.Native.Nat.{ℕ}
use mathlib.Core.Path.{sym, ap, ◌∙◌}
use lib.ListN.{replicate}
use Rattle.formats.specs.Formats.{digits_before, digits_after, may_sign}
use Rattle.formats.specs.Tenths.{spell_tenths}
use Rattle.numerals.proofs.Signs.{in_bits}
use Rattle.tenths.proofs.put_tenths.Goals as goal

pub returns-in-None : goal.returns-in-None
unfolding spell_tenths
returns-in-None c =
    let f = c.args.format in
    c.write_blank.ensures ∙ ap (λ (n : ℕ). replicate n 32) c.requires ∙ sym (ap (spell_tenths (digits_before f) (digits_after f) (may_sign f)) c.in-None.is)

pub returns-in-Some : goal.returns-in-Some
unfolding spell_tenths
returns-in-Some c =
    c.put_format.ensures ∙ rw (in_bits c.in-Some.z c.in-Some.known_told-1-own.given.0.1, c.in-Some.is)
