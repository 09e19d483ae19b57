-- A value as a caller states it: a byte that says whether it is filled, and a number.
use Rattle.std.specs.Prelude.{ℕ, cond, eqb, ℤ, Option, Some, None}
use Rattle.distances.specs.declared.Metres.{Metres}

-- A number of tenths: blank where `filled` is 0.
unfoldable pub tenths_stated : ℕ → ℤ → Option ℤ
tenths_stated filled v = cond (eqb filled 0) None (Some v)

-- A height in metres: blank where `filled` is 0.
unfoldable pub height_stated : ℕ → ℤ → Option Metres
height_stated filled v = cond (eqb filled 0) None (Some (record { 0 = v }))
