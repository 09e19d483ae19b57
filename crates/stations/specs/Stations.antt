-- What is read of station number k of a file.
use Rattle.std.specs.Prelude.{ℕ, List, take, drop, Option, Result}
use Rattle.frequencies.specs.Frequencies.{frequency_of}
use Rattle.distances.specs.Distances.{ground_of}
use Rattle.positions.specs.Positions.{located_of}
use Rattle.frequencies.specs.declared.Frequency.{Frequency}
use Rattle.distances.specs.declared.Metres.{Metres}
use Rattle.basics.specs.Fields.{at}
use Rattle.station.specs.Places.{fields_of}
use Rattle.station.specs.Codes.{station_code}
use Rattle.files.specs.Files.{record_at}
use Rattle.flaws.specs.declared.Flaw.{Flaw}
use Rattle.positions.specs.declared.Position.{Position}

-- Its code,
unfoldable pub code_at : List ℕ → ℕ → ℕ
code_at file k = station_code (record_at file k)

-- field number j of it,
abbrev pub field_of : List ℕ → ℕ → ℕ → List ℕ
field_of file k j = at (fields_of (record_at file k)) j

-- its 13X,
unfoldable pub reference_at : List ℕ → ℕ → List ℕ
reference_at file k = field_of file k 30

-- the operator's code, places 6 and 7 of it,
unfoldable pub operator_at : List ℕ → ℕ → List ℕ
operator_at file k = take 2 (drop 5 (reference_at file k))

-- operator and site, places 6 to 11 of it,
unfoldable pub site_at : List ℕ → ℕ → List ℕ
site_at file k = take 6 (drop 5 (reference_at file k))

-- its position, 4C,
unfoldable pub position_at : List ℕ → ℕ → Result Position Flaw
position_at file k = located_of (field_of file k 11)

-- its height above ground, 9Y,
unfoldable pub ground_at : List ℕ → ℕ → Metres
ground_at file k = ground_of (field_of file k 21)

-- and its transmit frequency, 1A with its unit.
unfoldable pub transmit_at : List ℕ → ℕ → Option Frequency
transmit_at file k = frequency_of (field_of file k 1) (field_of file k 2)
