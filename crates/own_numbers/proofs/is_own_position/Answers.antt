-- `own_numbers::is_own_position` meets its contract: both halves are their own spelling.
use mathlib.Core.Path.{sym, ◌∙◌}
use mathlib.Core.Bool.{false≢true}
use Rattle.own_numbers.proofs.OwnPlaces.{position_wide, position_own}
use native.Mathlib.Omega.{arith}
use Rattle.own_numbers.proofs.is_own_position.Goals as goal

pub slice_bounds-is_around-end : goal.slice_bounds-is_around-end
slice_bounds-is_around-end c = omega (arith, position_wide _ c.requires)

pub returns-then-not-is_around : goal.returns-then-not-is_around
returns-then-not-is_around c = λ e. absurd (false≢true e)

pub slice_bounds-is_around-end-2 : goal.slice_bounds-is_around-end-2
slice_bounds-is_around-end-2 c = omega (arith, position_wide _ c.requires)

pub returns : goal.returns
returns c = λ e.
    position_own _ c.requires (sym c.is_around.ensures ∙ c.if-not-is_around.false) (sym c.is_around-2.ensures ∙ e)
