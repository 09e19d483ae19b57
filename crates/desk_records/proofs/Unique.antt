-- The promises of the calls on single records leave one answer, one code and one content of the lent bytes.
use mathlib.Core.Path.{◌≡◌, sym, ◌∙◌}
use mathlib.Core.List.{List}
use Prim.Native.Nat.{ℕ}
use lib.IntN.{ℤ}
use Rattle.station.specs.Calls.{read_outcome}
use Rattle.station.specs.Setting.{with_power, with_azimuth, with_elevation, with_height, with_ground}
use Rattle.station.specs.declared.Station.{Station}
use Rattle.header.specs.Calls.{read_header_outcome}
use Rattle.answers.proofs.Unique.{one_answer, one_ending}
use Rattle.respelling.specs.Respelling.{respell_outcome, respelled_station, respell_header_outcome, respelled_header}
use Rattle.changing.specs.Changing.{change_outcome, changed_record}
use Rattle.stating.specs.Stating.{tenths_stated, height_stated}
use Rattle.desk_records.specs.Promises.{StationCoded, StationKindTold, HeaderCoded, StationRespelled, HeaderRespelled, RecordChanged, PowerChanged, AzimuthChanged, ElevationChanged, HeightChanged, GroundChanged}

-- so that `desk_station_code` has one answer and one code,
pub one_station_code : (r : List ℕ) (a b c d : ℕ) → StationCoded r a c → StationCoded r b d → (a ≡ b) × (c ≡ d)
one_station_code r = one_answer (read_outcome r)

-- `desk_station_kind` one answer, one code and one kind,
pub one_station_kind : (r : List ℕ) (a b c d x y : ℕ) → StationKindTold r a c x → StationKindTold r b d y → (a ≡ b) × (c ≡ d) × (x ≡ y)
one_station_kind r a b c d x y p q = let h = one_answer (read_outcome r) a b c d p.0 q.0 in (h.0, h.1, p.1 ∙ sym q.1)

-- and `desk_header_code` too.
pub one_header_code : (r : List ℕ) (a b c d : ℕ) → HeaderCoded r a c → HeaderCoded r b d → (a ≡ b) × (c ≡ d)
one_header_code r = one_answer (read_header_outcome r)

-- so that `desk_respell_station` leaves one answer, one code and one content of the buffer,
pub one_respelling : (r before : List ℕ) (a b c d : ℕ) (x y : List ℕ) → StationRespelled r before a x c → StationRespelled r before b y d → (a ≡ b) × (c ≡ d) × (x ≡ y)
one_respelling r before = one_ending (respell_outcome r before) (respelled_station r before)

-- and so does `desk_respell_header`;
pub one_header_respelling : (r before : List ℕ) (a b c d : ℕ) (x y : List ℕ) → HeaderRespelled r before a x c → HeaderRespelled r before b y d → (a ≡ b) × (c ≡ d) × (x ≡ y)
one_header_respelling r before = one_ending (respell_header_outcome r before) (respelled_header r before)

-- one change leaves one answer, one code and one content of the record,
pub one_change : (change : Station → Station) (before : List ℕ) (a b c d : ℕ) (x y : List ℕ) → RecordChanged change before a x c → RecordChanged change before b y d → (a ≡ b) × (c ≡ d) × (x ≡ y)
one_change change before = one_ending (change_outcome change before) (changed_record change before)

-- so that `desk_set_power` does,
pub one_power : (filled : ℕ) (v : ℤ) (before : List ℕ) (a b c d : ℕ) (x y : List ℕ) → PowerChanged filled v before a x c → PowerChanged filled v before b y d → (a ≡ b) × (c ≡ d) × (x ≡ y)
one_power filled v = one_change (λ s. with_power s (tenths_stated filled v))

-- `desk_set_azimuth`,
pub one_azimuth : (filled : ℕ) (v : ℤ) (before : List ℕ) (a b c d : ℕ) (x y : List ℕ) → AzimuthChanged filled v before a x c → AzimuthChanged filled v before b y d → (a ≡ b) × (c ≡ d) × (x ≡ y)
one_azimuth filled v = one_change (λ s. with_azimuth s (tenths_stated filled v))

-- `desk_set_elevation`,
pub one_elevation : (filled : ℕ) (v : ℤ) (before : List ℕ) (a b c d : ℕ) (x y : List ℕ) → ElevationChanged filled v before a x c → ElevationChanged filled v before b y d → (a ≡ b) × (c ≡ d) × (x ≡ y)
one_elevation filled v = one_change (λ s. with_elevation s (tenths_stated filled v))

-- `desk_set_height`
pub one_height : (filled : ℕ) (v : ℤ) (before : List ℕ) (a b c d : ℕ) (x y : List ℕ) → HeightChanged filled v before a x c → HeightChanged filled v before b y d → (a ≡ b) × (c ≡ d) × (x ≡ y)
one_height filled v = one_change (λ s. with_height s (height_stated filled v))

-- and `desk_set_ground`.
pub one_ground : (v : ℤ) (before : List ℕ) (a b c d : ℕ) (x y : List ℕ) → GroundChanged v before a x c → GroundChanged v before b y d → (a ≡ b) × (c ≡ d) × (x ≡ y)
one_ground v = one_change (λ s. with_ground s (record { 0 = v }))
