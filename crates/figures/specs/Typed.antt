-- Document 01, "Values and the one spelling": typed stations. Station S read, written and read again, with each rule of typed stations broken
-- once, with a value set, and the empty station written; computed from the definitions.
use Rattle.std.specs.Prelude.{ℕ, ◌-◌, ◌≡◌, List, [], ◌∷◌, map, pos, neg_ℤ, set, replicate, Option, Some, None, ℤ}
use Prim.Native.String.{String}
use Rattle.frequencies.specs.declared.Frequency.{Frequency}
use Rattle.frequencies.specs.declared.Hertz.TheVariants as hertz
use Rattle.distances.specs.declared.Kilometres.{Kilometres}
use Rattle.positions.specs.declared.Position.{Position}
use Rattle.basics.specs.Outcomes.{refusal, code_with, Outcome}
use Rattle.station.specs.Values.{empty_station}
use Rattle.station.specs.Codes.{value_of, typed_code}
use Rattle.station.specs.Calls.{read_outcome, read_station, write_outcome, written_station, set_outcome, set_station}
use Rattle.station.specs.Setting.{with_value, with_power, with_azimuth, with_elevation, with_height, with_ground}
use Rattle.station.specs.declared.Station.{Station}
use Rattle.figures.specs.Samples.{record_from, station_s}
use Rattle.figures.specs.Worked.{spelled_s}
use Rattle.days.specs.declared.dates.Date.{Date}

-- A text in field number k of a record's texts.
abbrev pub put : ℕ → String → List String → List String
put k t fields = set fields (k - 1) t

-- The typed station that texts say, whether or not they keep their rules: text and codes are kept as their bytes.
abbrev pub said : List String → Station
said fields = value_of (record_from fields)

-- Station S, typed.
abbrev pub typed_s : Station
typed_s = said station_s

-- Station S with another text in field number k, typed.
abbrev pub said_with : ℕ → String → Station
said_with k t = said (put k t station_s)

-- Station S with a value changed that no text says: 1A,
abbrev pub with_transmit : Option Frequency → Station
with_transmit v = with_value 1 typed_s v

-- 2C, 4C or 4D,
abbrev pub sited : Option Date → Position → Kilometres → Station
sited started position radius = with_value 8 (with_value 11 (with_value 12 typed_s radius) position) started

-- 9G,
abbrev pub with_gain : Option ℤ → Station
with_gain v = with_value 20 typed_s v

-- 1Y, 2W or 2Z.
abbrev pub filed : Option Frequency → Option Date → Option Date → Station
filed receive requested coordinated = with_value 24 (with_value 28 (with_value 29 typed_s coordinated) requested) receive

-- A typed date, whether or not there is such a day.
abbrev pub dated : ℕ → ℕ → ℕ → Option Date
dated d m y = Some (record { day = d; month = m; year = y })

-- Station S with each rule broken once that a typed station can break, in their order: all but 2 and 25.
abbrev pub broken : List Station
broken =
    with_transmit (Some (record { amount = 0; unit = hertz.Mega })) ∷
    said_with 3 "9" ∷
    said_with 4 "XX" ∷
    said_with 5 "XX" ∷
    said_with 6 "J " ∷
    said_with 7 "2" ∷
    sited (dated 1 1 1900) typed_s.site.position typed_s.site.radius ∷
    said_with 9 "xxxxxxxxxxxxxxxxxxxx" ∷
    said_with 10 "A T" ∷
    sited typed_s.site.started (record { east = pos 648001; north = pos 0 }) typed_s.site.radius ∷
    sited typed_s.site.started typed_s.site.position (record { 0 = 100000 }) ∷
    with_height typed_s (Some (record { 0 = neg_ℤ (pos 1000) })) ∷
    said_with 14 "0M00G7W  " ∷
    with_power typed_s (Some (pos 10000)) ∷
    said_with 16 "X" ∷
    with_azimuth typed_s (Some (pos 3600)) ∷
    with_elevation typed_s (Some (neg_ℤ (pos 901))) ∷
    said_with 19 " H" ∷
    with_gain (Some (pos 1000)) ∷
    with_ground typed_s (record { 0 = neg_ℤ (pos 1) }) ∷
    said_with 22 "000nd00" ∷
    said_with 23 "000ND0 " ∷
    filed (Some (record { amount = 10000000000; unit = hertz.Giga })) typed_s.coordination.requested typed_s.coordination.coordinated ∷
    said_with 26 "99999999999999999999999999999999999999999999999999" ∷
    said_with 27 "X" ∷
    filed typed_s.coordination.receive (dated 0 1 2000) typed_s.coordination.coordinated ∷
    filed typed_s.coordination.receive typed_s.coordination.requested (dated 1 13 2000) ∷
    said_with 30 "AUT2311AB01A00x" ∷
    said (put 1 "           " (put 15 "      " (put 24 "           " station_s))) ∷
    said_with 1 "           " ∷
    said_with 12 "    1" ∷
    said_with 4 "ML" ∷
    said (put 17 "     " (put 22 "010ND00" station_s)) ∷
    said (put 18 "     " (put 23 "010ND00" station_s)) ∷
    said (put 4 "ML" (put 17 "     " station_s)) ∷
    said_with 20 "    " ∷
    said_with 4 "FL" ∷
    []

-- Their codes.
abbrev pub broken_codes : List ℕ
broken_codes =
    1 ∷ 3 ∷ 4 ∷ 5 ∷ 6 ∷ 7 ∷ 8 ∷ 9 ∷ 10 ∷ 11 ∷ 12 ∷ 13 ∷ 14 ∷ 15 ∷ 16 ∷ 17 ∷ 18 ∷ 19 ∷ 20 ∷ 21 ∷ 22 ∷ 23 ∷ 24 ∷
    26 ∷ 27 ∷ 28 ∷ 29 ∷ 30 ∷ 31 ∷ 32 ∷ 33 ∷ 34 ∷ 35 ∷ 36 ∷ 37 ∷ 38 ∷ 39 ∷ []

-- How a call ended: its refusal's number and the code.
abbrev pub ended : Outcome → List ℕ
ended o = refusal o ∷ code_with o ∷ []

abbrev pub done : List ℕ
done = 0 ∷ 0 ∷ []

-- A buffer of dashes.
abbrev pub dashes : ℕ → List ℕ
dashes n = replicate n 45

-- A changed station S is taken and handed back,
abbrev pub Taken : Station → Type 0
Taken changed = (ended (set_outcome changed) ≡ done) × (set_station typed_s changed ≡ changed)

-- or refused with a code, and station S is handed back.
abbrev pub Refused : Station → ℕ → Type 0
Refused changed c = (ended (set_outcome changed) ≡ (9 ∷ c ∷ [])) × (set_station typed_s changed ≡ typed_s)

-- What the definitions make of these.
pub record TypedWorked : Type 0 where
  -- Station S is read, and written in the one spelling; that is read as the same station, and written as it stands.
  pub read_ends : ended (read_outcome (record_from station_s)) ≡ done
  pub written_ends : ended (write_outcome (read_station (record_from station_s)) (dashes 219)) ≡ done
  pub written : written_station (read_station (record_from station_s)) (dashes 219) ≡ record_from spelled_s
  pub read_again : ended (read_outcome (record_from spelled_s)) ≡ done
  pub written_again : written_station (read_station (record_from spelled_s)) (dashes 219) ≡ record_from spelled_s
  -- Each rule that a typed station can break.
  pub codes : map typed_code broken ≡ broken_codes
  -- Values set: a power of 35.0, an azimuth of 360.0, no elevation, a height of -999 and one above ground of -1.
  pub power : Taken (with_power typed_s (Some (pos 350)))
  pub azimuth : Refused (with_azimuth typed_s (Some (pos 3600))) 17
  pub elevation : Taken (with_elevation typed_s None)
  pub sea_height : Taken (with_height typed_s (Some (record { 0 = neg_ℤ (pos 999) })))
  pub ground : Refused (with_ground typed_s (record { 0 = neg_ℤ (pos 1) })) 21
  -- The empty station cannot be written: a short buffer is refused first, and on either refusal the buffer is as it was.
  pub short_ends : ended (write_outcome empty_station (dashes 218)) ≡ (7 ∷ 0 ∷ [])
  pub short_kept : written_station empty_station (dashes 218) ≡ dashes 218
  pub empty_ends : ended (write_outcome empty_station (dashes 219)) ≡ (9 ∷ 6 ∷ [])
  pub empty_kept : written_station empty_station (dashes 219) ≡ dashes 219
