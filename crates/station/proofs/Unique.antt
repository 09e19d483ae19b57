-- The promises of the calls on typed stations leave one answer.
use mathlib.Core.Path.{◌≡◌, sym, ◌∙◌}
use Prim.Native.Nat.{ℕ}
use Rattle.distances.specs.declared.Metres.{Metres}
use Rattle.station.specs.Setting.{with_power, with_azimuth, with_elevation, with_height, with_ground}
use Rattle.station.specs.Promises.{StationJudged, StationSet, PowerSet, AzimuthSet, ElevationSet, HeightSet, GroundSet}
use Rattle.station.specs.declared.Station.{Station}
use Rattle.station.specs.declared.setting.Settled.{Settled}
use Rattle.std.specs.Prelude.{Option, ℤ}

-- Two answers of `typed_code` to one station are equal.
pub one_code : (s : Station) (a b : ℕ) → StationJudged s a → StationJudged s b → a ≡ b
one_code s a b p q = p ∙ sym q

-- Two answers for one given station and one changed one are equal,
pub one_setting : (given changed : Station) (a b : Settled) → StationSet given changed a → StationSet given changed b → a ≡ b
one_setting given changed a b p q = λ k. record { outcome = (p.0 ∙ sym q.0) k; station = (p.1 ∙ sym q.1) k }

-- so that `set_power` has one answer,
pub one_power : (s : Station) (v : Option ℤ) (a b : Settled) → PowerSet s v a → PowerSet s v b → a ≡ b
one_power s v = one_setting s (with_power s v)

-- `set_azimuth` one,
pub one_azimuth : (s : Station) (v : Option ℤ) (a b : Settled) → AzimuthSet s v a → AzimuthSet s v b → a ≡ b
one_azimuth s v = one_setting s (with_azimuth s v)

-- `set_elevation` one,
pub one_elevation : (s : Station) (v : Option ℤ) (a b : Settled) → ElevationSet s v a → ElevationSet s v b → a ≡ b
one_elevation s v = one_setting s (with_elevation s v)

-- `set_height` one,
pub one_height : (s : Station) (v : Option Metres) (a b : Settled) → HeightSet s v a → HeightSet s v b → a ≡ b
one_height s v = one_setting s (with_height s v)

-- and `set_ground` one.
pub one_ground : (s : Station) (v : Metres) (a b : Settled) → GroundSet s v a → GroundSet s v b → a ≡ b
one_ground s v = one_setting s (with_ground s v)
