-- `between::is_repeater_name` meets its contract.
use mathlib.Core.Path.{sym, ◌∙◌}
use lib.ListN.{take}
use lib.Seq.{length-take-le}
use Rattle.between.proofs.EndLaws.{ends_short, ends_there}
use native.Mathlib.Omega.{arith}
use Rattle.between.proofs.is_repeater_name.Goals as goal

pub returns-then-n-lt2 : goal.returns-then-n-lt2
returns-then-n-lt2 c =
    let s = c.args.s.now in
    rw c.trimmed_length-n.ensures.1 (sym (ends_short (take c.trimmed_length-n.result s) (omega (arith, length-take-le c.trimmed_length-n.result s c.trimmed_length-n.ensures.0, c.if-n-lt2.true))))

pub returns : goal.returns
returns c =
    rw c.trimmed_length-n.ensures.1 (c.equal.ensures ∙ sym (ends_there c.args.s.now c.trimmed_length-n.result c.if-n-lt2.false c.trimmed_length-n.ensures.0))
