-- The promise of building leaves one answer.
use mathlib.Core.Path.{◌≡◌, sym, ◌∙◌}
use mathlib.Core.List.{List}
use Prim.Native.Nat.{ℕ}
use Rattle.frequencies.specs.declared.Frequency.{Frequency}
use Rattle.station.specs.declared.Station.{Station}
use Rattle.carriage.specs.Promises.{CarriageBuilt}
use Rattle.carriage.specs.declared.Built.{Built}
use Rattle.std.specs.Prelude.{Option, ℤ}

-- Two answers of `build` to the same number, values and defaults are equal.
pub one_building : (number : List ℕ) (transmit : Option Frequency) (power : Option ℤ) (reference : List ℕ) (s : Station) (a b : Built)
    → CarriageBuilt number transmit power reference s a → CarriageBuilt number transmit power reference s b → a ≡ b
one_building number transmit power reference s a b p q = λ k. record { outcome = (p.0 ∙ sym q.0) k; station = (p.1 ∙ sym q.1) k }
