-- What building a carriage's station promises, as a relation between what it is given and its answer.
use Rattle.std.specs.Prelude.{ℕ, ◌≡◌, List, Option, ℤ}
use Rattle.frequencies.specs.declared.Frequency.{Frequency}
use Rattle.station.specs.declared.Station.{Station}
use Rattle.carriage.specs.Building.{build_outcome, built_station}
use Rattle.carriage.specs.declared.Built.{Built}

-- `build`: how it ends, and the station that it hands back.
abbrev pub CarriageBuilt : List ℕ → Option Frequency → Option ℤ → List ℕ → Station → Built → Type 0
CarriageBuilt number transmit power reference s answer =
    (answer.outcome ≡ build_outcome number transmit power reference s) × (answer.station ≡ built_station number transmit power reference s)
