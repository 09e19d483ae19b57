-- `hundredths::hundredths_of` meets its contract: steps of the unit.
use mathlib.Core.Path.{◌≡◌, sym, ap, ◌∙◌}
use mathlib.Core.Bool.{true}
use Rattle.std.specs.Prelude.{Some}
use Rattle.frequencies.specs.Frequencies.{frequency_fits}
use Rattle.hundredths.specs.Hundredths.{hundredths_of}
use Rattle.hundredths.proofs.StepLaws.{fits_below, step_fits}
use Rattle.hundredths.proofs.hundredths_of.Goals as goal

pub overflow_mul-result : goal.overflow_mul-result
overflow_mul-result c =
    let f = c.in_ok-f.f in
    let fits : frequency_fits (Some f) ≡ true = ap frequency_fits (sym c.in_ok-f.was) ∙ c.requires in
    record { fits = rw c.step_of.ensures (step_fits f.amount f.unit (fits_below f fits)) }

pub returns : goal.returns
unfolding hundredths_of
returns c = rw (c.in_ok-f.was, c.step_of.ensures)

pub returns-in_err-f : goal.returns-in_err-f
unfolding hundredths_of
returns-in_err-f c = rw (c.from_residual.ensures, c.in_err-f.was)
