-- What the calls on single records promise to callers in C, as relations between what they are given, their answer and what they leave in
-- every lent byte.
use Rattle.std.specs.Prelude.{ℕ, List, ℤ, ◌≡◌}
use Rattle.flaws.specs.Flaws.{flaw_number}
use Rattle.station.specs.Calls.{read_outcome}
use Rattle.station_flaws.specs.Calls.{flaw_of_reading}
use Rattle.station.specs.Setting.{with_power, with_azimuth, with_elevation, with_height, with_ground}
use Rattle.station.specs.declared.Station.{Station}
use Rattle.header.specs.Calls.{read_header_outcome}
use Rattle.answers.specs.Endings.{Answered, AnsweredLeaving}
use Rattle.respelling.specs.Respelling.{respell_outcome, respelled_station, respell_header_outcome, respelled_header}
use Rattle.changing.specs.Changing.{change_outcome, changed_record}
use Rattle.stating.specs.Stating.{tenths_stated, height_stated}

-- `desk_station_code` on a record.
abbrev pub StationCoded : List ℕ → ℕ → ℕ → Type 0
StationCoded r answer code = Answered (read_outcome r) answer code

-- `desk_station_kind` on a record: as `desk_station_code`, and the number of the flaw that comes with the code.
abbrev pub StationKindTold : List ℕ → ℕ → ℕ → ℕ → Type 0
StationKindTold r answer code kind = Answered (read_outcome r) answer code × (kind ≡ flaw_number (flaw_of_reading r))

-- `desk_header_code` on a record.
abbrev pub HeaderCoded : List ℕ → ℕ → ℕ → Type 0
HeaderCoded r answer code = Answered (read_header_outcome r) answer code

-- `desk_respell_station` of a record into a buffer.
abbrev pub StationRespelled : List ℕ → List ℕ → ℕ → List ℕ → ℕ → Type 0
StationRespelled r before answer after code = AnsweredLeaving (respell_outcome r before) (respelled_station r before) answer after code

-- `desk_respell_header` of a record into a buffer.
abbrev pub HeaderRespelled : List ℕ → List ℕ → ℕ → List ℕ → ℕ → Type 0
HeaderRespelled r before answer after code = AnsweredLeaving (respell_header_outcome r before) (respelled_header r before) answer after code

-- A change to the station that a record says.
abbrev pub RecordChanged : (Station → Station) → List ℕ → ℕ → List ℕ → ℕ → Type 0
RecordChanged change before answer after code = AnsweredLeaving (change_outcome change before) (changed_record change before) answer after code

-- `desk_set_power`, 8B1
abbrev pub PowerChanged : ℕ → ℤ → List ℕ → ℕ → List ℕ → ℕ → Type 0
PowerChanged filled v before answer after code = RecordChanged (λ s. with_power s (tenths_stated filled v)) before answer after code

-- `desk_set_azimuth`, 9A
abbrev pub AzimuthChanged : ℕ → ℤ → List ℕ → ℕ → List ℕ → ℕ → Type 0
AzimuthChanged filled v before answer after code = RecordChanged (λ s. with_azimuth s (tenths_stated filled v)) before answer after code

-- `desk_set_elevation`, 9B
abbrev pub ElevationChanged : ℕ → ℤ → List ℕ → ℕ → List ℕ → ℕ → Type 0
ElevationChanged filled v before answer after code = RecordChanged (λ s. with_elevation s (tenths_stated filled v)) before answer after code

-- `desk_set_height`, 4Z
abbrev pub HeightChanged : ℕ → ℤ → List ℕ → ℕ → List ℕ → ℕ → Type 0
HeightChanged filled v before answer after code = RecordChanged (λ s. with_height s (height_stated filled v)) before answer after code

-- `desk_set_ground`, 9Y
abbrev pub GroundChanged : ℤ → List ℕ → ℕ → List ℕ → ℕ → Type 0
GroundChanged v before answer after code = RecordChanged (λ s. with_ground s (record { 0 = v })) before answer after code
