-- Document 02, wish 2: days that the calendar has and has not, in stations, headers, typed values and lists; computed from the definitions.
use Rattle.std.specs.Prelude.{ℕ, ◌≡◌, true, false, List, [], ◌∷◌, ◌++◌, map, length, replicate}
use Prim.Native.String.{String}
use Rattle.columns.specs.Texts.{bytes}
use Rattle.days.specs.Dates.{day_good, date_good, date_fits}
use Rattle.basics.specs.Outcomes.{refusal, code_with}
use Rattle.station.specs.Codes.{station_code, typed_code}
use Rattle.station.specs.Calls.{write_outcome}
use Rattle.lists.specs.Calls.{line_outcome}
use Rattle.header.specs.Codes.{header_code}
use Rattle.figures.specs.Samples.{s_with, header_with}
use Rattle.figures.specs.Typed.{typed_s, sited, filed, dated, ended, dashes}

-- Days that there are: 29 February every fourth year and in 2000, the last of the longest months, and of all years.
abbrev pub there : List String
there = "29021904" ∷ "29022000" ∷ "29022024" ∷ "28022023" ∷ "30042024" ∷ "31012024" ∷ "31072024" ∷ "31082024" ∷ "31129999" ∷ []

-- Days that there are not: 29 February in other years, each hundredth among them (1900 is below the years as well), day 31 of short months, 30
-- February, months 00 and 13, days 00 and 32.
abbrev pub not_there : List String
not_there =
    "29021901" ∷ "29022023" ∷ "29022100" ∷ "29021900" ∷ "31042024" ∷ "31062024" ∷ "31092024" ∷ "31112024" ∷ "30022024" ∷ "30022023" ∷
    "01002024" ∷ "01132024" ∷ "00012024" ∷ "32012024" ∷ []

-- A station with 30 February in 2C, as a line.
abbrev pub late_line : List ℕ
late_line = bytes "938.2;M;2;FB;CP;L;1;30022024;1010_MUSTER;AUT;016E220548N1200;0;180;5M00G7W;30.0;E;120.0;-2.0;V;17.0;30;000ND00;000ND00;893.2;M;;B;;;AUT2311AB01A001" ++ (10 ∷ [])

-- What the definitions make of these.
pub record RealDays : Type 0 where
  -- In a station's columns and in the header's alike.
  pub station_takes : map (λ t. day_good (bytes t)) there ≡ replicate (length there) true
  pub station_refuses : map (λ t. day_good (bytes t)) not_there ≡ replicate (length not_there) false
  pub header_takes : map (λ t. date_good (bytes t)) there ≡ replicate (length there) true
  pub header_refuses : map (λ t. date_good (bytes t)) not_there ≡ replicate (length not_there) false
  -- 2C, 2W, 2Z and the header's date have their own codes.
  pub leap_day : map (λ k. station_code (s_with k "29022024")) (8 ∷ 28 ∷ 29 ∷ []) ≡ (0 ∷ 0 ∷ 0 ∷ [])
  pub no_day : map (λ k. station_code (s_with k "30022024")) (8 ∷ 28 ∷ 29 ∷ []) ≡ (8 ∷ 28 ∷ 29 ∷ [])
  pub header_leap_day : header_code (header_with 10 "29022024") ≡ 0
  pub header_no_day : header_code (header_with 10 "30022024") ≡ 10
  -- A typed date that is no day breaks its field's rule and cannot be written; the header's neither.
  pub typed_leap_day : typed_code (sited (dated 29 2 2024) typed_s.site.position typed_s.site.radius) ≡ 0
  pub typed_no_day : typed_code (sited (dated 30 2 2024) typed_s.site.position typed_s.site.radius) ≡ 8
  pub typed_request : typed_code (filed typed_s.coordination.receive (dated 31 4 2024) typed_s.coordination.coordinated) ≡ 28
  pub typed_agreement : typed_code (filed typed_s.coordination.receive typed_s.coordination.requested (dated 29 2 2100)) ≡ 29
  pub typed_header : (date_fits (dated 29 2 2000) ≡ true) × (date_fits (dated 29 2 2100) ≡ false)
  pub not_written : ended (write_outcome (sited (dated 30 2 2024) typed_s.site.position typed_s.site.radius) (dashes 219)) ≡ (9 ∷ 8 ∷ [])
  -- A list refuses it with 9 and the code.
  pub not_listed : (refusal (line_outcome late_line) ≡ 9) × (code_with (line_outcome late_line) ≡ 8)
