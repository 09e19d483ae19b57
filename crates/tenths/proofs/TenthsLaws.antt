-- Tenths that stand in their columns, over the format.
use mathlib.Core.Path.{◌≡◌}
use mathlib.Core.Bool.{Bool, true, false}
use lib.IntN.{ℤ}
use Rattle.formats.specs.Formats.{digits_before, digits_after, may_sign, format_fits}
use Rattle.formats.specs.declared.Format.{Format}
use Rattle.formats.specs.Tenths.{tenths_fit}
use Rattle.fields.specs.Table.{range_of}
use Rattle.std.specs.Prelude.{Option, Some}

-- a filled value does not fit where its digits lack their places,
pub fit_not : (f : Format) (z : ℤ) {v : Option ℤ} → v ≡ Some z → format_fits f z ≡ false → false ≡ tenths_fit (digits_before f) (digits_after f) (may_sign f) (range_of f) v
unfolding tenths_fit
fit_not f z e h = rw (e, h)

-- and fits by its range where they have them
pub fit_range : (f : Format) (z : ℤ) {v : Option ℤ} {r : Bool} → v ≡ Some z → format_fits f z ≡ true → r ≡ range_of f z → r ≡ tenths_fit (digits_before f) (digits_after f) (may_sign f) (range_of f) v
unfolding tenths_fit
fit_range f z e h g = rw (e, h) g
