-- Document 01, "Worked figures": the sheets of station S, its code and its one spelling, and the header's traps, computed from the definitions.
use Rattle.std.specs.Prelude.{ℕ, ◌≡◌, List, [], ◌∷◌, ◌++◌, set, pos}
use Prim.Native.String.{String}
use Rattle.columns.specs.Texts.{bytes}
use Rattle.station.specs.Spelling.{spell_station}
use Rattle.station.specs.Codes.{value_of, station_code, typed_code}
use Rattle.semicolons.specs.Lines.{line_of}
use Rattle.lists.specs.Calls.{line_outcome, station_in_line}
use Rattle.header.specs.Values.{header_of}
use Rattle.header.specs.Codes.{header_code, filed_header_code}
use Rattle.showing.specs.Showing.{show_outcome, shown_field}
use Rattle.sheet.specs.Sheets.{sheet_of}
use Rattle.replacing.specs.Calls.{replaced_sheet, replaced_rows}
use Rattle.verifying.specs.Verifying.{finding_of}
use Rattle.verifying.specs.declared.verifying.Finding.TheVariants as finding
use Rattle.basics.specs.Outcomes.{refusal, code_with}
use Rattle.figures.specs.Figures.{Figure, figure, minus, AllHold}
use Rattle.figures.specs.Samples as samples
use Rattle.figures.specs.Samples.{record_from, station_s, s_with, header_with}

abbrev pub s : List ℕ
s = record_from station_s

-- A valid header, and station S twice.
abbrev pub two : List ℕ
two = record_from (samples.header_of "     2") ++ (s ++ s)

-- Its sheet: the second station is the first one's twin.
abbrev pub two_sheet : List ℕ
two_sheet = 0x00 ∷ 0x00 ∷ 0x00 ∷ 0x00 ∷ 0x00 ∷ 0x00 ∷ 0x00 ∷ 0x01 ∷ 0x00 ∷ 0x00 ∷ 0x00 ∷ 0x14 ∷ 0x05 ∷ 0x00 ∷ 0x00 ∷ 0x02 ∷ 0x00 ∷ 0x01 ∷ 0x32 ∷ 0x43 ∷ []

-- The same sheet in the form that document 01 has.
abbrev pub old_two_sheet : List ℕ
old_two_sheet = 0x00 ∷ 0x00 ∷ 0x00 ∷ 0x01 ∷ 0x00 ∷ 0x0c ∷ 0x02 ∷ 0x00 ∷ 0x02 ∷ 0x01 ∷ 0x32 ∷ 0x41 ∷ []

-- The sheet after number 1 got another reference.
abbrev pub mended_sheet : List ℕ
mended_sheet = 0x00 ∷ 0x00 ∷ 0x00 ∷ 0x00 ∷ 0x00 ∷ 0x00 ∷ 0x00 ∷ 0x00 ∷ 0x00 ∷ 0x00 ∷ 0x00 ∷ 0x14 ∷ 0x05 ∷ 0x00 ∷ 0x00 ∷ 0x00 ∷ 0x00 ∷ 0x00 ∷ 0x32 ∷ 0x43 ∷ []

-- The sheet of a header alone.
abbrev pub alone_sheet : List ℕ
alone_sheet = 0x00 ∷ 0x0a ∷ 0x05 ∷ 0x00 ∷ 0x00 ∷ 0x00 ∷ 0x00 ∷ 0x00 ∷ 0x32 ∷ 0x43 ∷ []

-- Three stations at the site of S: S, one a minute further east, and one where S is. The second clashes with the first, the third with the second.
abbrev pub one_site : List ℕ
one_site =
    record_from (samples.header_of "     3")
    ++ (s ++ (record_from (set (set station_s 29 "AUT2311AB01A002") 10 "016E230548N1200") ++ s_with 30 "AUT2311AB01A003"))

abbrev pub one_site_sheet : List ℕ
one_site_sheet =
    0x00 ∷ 0x00 ∷ 0x00 ∷ 0x00 ∷ 0x00 ∷
    0x00 ∷ 0x00 ∷ 0x00 ∷ 0x00 ∷ 0x01 ∷
    0x00 ∷ 0x00 ∷ 0x00 ∷ 0x00 ∷ 0x02 ∷
    0x00 ∷ 0x19 ∷ 0x05 ∷ 0x00 ∷ 0x00 ∷ 0x02 ∷ 0x00 ∷ 0x02 ∷ 0x32 ∷ 0x43 ∷ []

-- Its sheet after number 2 became a twin of S that breaks rule 3.
abbrev pub broken_site_sheet : List ℕ
broken_site_sheet =
    0x00 ∷ 0x00 ∷ 0x00 ∷ 0x00 ∷ 0x00 ∷
    0x03 ∷ 0x00 ∷ 0x01 ∷ 0x00 ∷ 0x00 ∷
    0x00 ∷ 0x00 ∷ 0x00 ∷ 0x00 ∷ 0x00 ∷
    0x00 ∷ 0x19 ∷ 0x05 ∷ 0x00 ∷ 0x00 ∷ 0x02 ∷ 0x00 ∷ 0x01 ∷ 0x32 ∷ 0x43 ∷ []

-- Station S in the one spelling.
abbrev pub spelled_s : List String
spelled_s =
    "00938.20000" ∷ "M" ∷ "2" ∷ "FB" ∷ "CP" ∷ "L " ∷ "1" ∷
    "01032021" ∷ "1010_MUSTER         " ∷ "AUT" ∷ "016E220548N1200" ∷ "00000" ∷ "0180" ∷
    "5M00G7W  " ∷ " 030.0" ∷ "E" ∷ "120.0" ∷ "-02.0" ∷
    "V " ∷ "17.0" ∷ "0030" ∷ "000ND00" ∷ "000ND00" ∷
    "00893.20000" ∷ "M" ∷ "                                                  " ∷ "B" ∷ "        " ∷ "        " ∷ "AUT2311AB01A001" ∷
    []

-- A text as a line.
abbrev pub line : String → List ℕ
line t = bytes t ++ (10 ∷ [])

-- Station S as it goes out.
abbrev pub line_s : List ℕ
line_s = line "00938.20000;M;2;FB;CP;L;1;01032021;1010_MUSTER;AUT;016E220548N1200;00000;0180;5M00G7W;030.0;E;120.0;-02.0;V;17.0;0030;000ND00;000ND00;00893.20000;M;                                                  ;B;;;AUT2311AB01A001"

-- Station S as an owner may keep it.
abbrev pub kept_s : List ℕ
kept_s = line "938.2;M;2;FB;CP;L;1;01032021;1010_MUSTER;AUT;016E220548N1200;0;180;5M00G7W;30.0;E;120.0;-2.0;V;17.0;30;000ND00;000ND00;893.2;M;;B;;;AUT2311AB01A001"

-- The same without its power's tenths,
abbrev pub whole_power : List ℕ
whole_power = line "938.2;M;2;FB;CP;L;1;01032021;1010_MUSTER;AUT;016E220548N1200;0;180;5M00G7W;30;E;120.0;-2.0;V;17.0;30;000ND00;000ND00;893.2;M;;B;;;AUT2311AB01A001"

-- with a class of three letters,
abbrev pub long_class : List ℕ
long_class = line "938.2;M;2;FBX;CP;L;1;01032021;1010_MUSTER;AUT;016E220548N1200;0;180;5M00G7W;30;E;120.0;-2.0;V;17.0;30;000ND00;000ND00;893.2;M;;B;;;AUT2311AB01A001"

-- and without 13Y and its semicolon as well.
abbrev pub field_lost : List ℕ
field_lost = line "938.2;M;2;FBX;CP;L;1;01032021;1010_MUSTER;AUT;016E220548N1200;0;180;5M00G7W;30;E;120.0;-2.0;V;17.0;30;000ND00;000ND00;893.2;M;;;;AUT2311AB01A001"

-- The traps of "Easy to get wrong" and of the rules' own words.
abbrev pub traps : List Figure
traps =
    figure 15 "      " 0 [] ∷  -- a blank power is not 0 dBW
    figure 11 "016W220548S1200" 0 (minus 58925 ∷ minus 173520 ∷ []) ∷  -- west and south are negative
    figure 11 "000W000000S0000" 0 (pos 0 ∷ pos 0 ∷ []) ∷  -- and zero has no sign
    figure 11 "016E60 548N12 0" 11 [] ∷  -- sixty minutes
    figure 9 "1010_[              " 9 [] ∷  -- "A..z" is not the ASCII range
    figure 9 "1010_^              " 9 [] ∷
    figure 18 "-90.1" 18 [] ∷
    figure 18 "090.0" 18 [] ∷  -- three digits before the point
    figure 13 "  -5" 0 (minus 5 ∷ []) ∷
    figure 13 "- 5 " 13 [] ∷
    figure 1 "  938.     " 1 [] ∷  -- no digit after the point
    figure 1 "    0.0    " 1 [] ∷  -- not above zero
    figure 2 " " 2 [] ∷  -- a frequency without its unit
    figure 8 "01011900" 8 [] ∷
    figure 8 "01011901" 0 [] ∷
    figure 10 "A T" 10 [] ∷
    figure 6 "J " 6 [] ∷
    figure 14 "0M00G7W  " 14 [] ∷  -- a bandwidth that begins with 0
    figure 14 "5M00G7W N" 14 [] ∷  -- the ninth place without the eighth
    figure 4 "FL" 39 [] ∷  -- a repeater whose name does not end in _R
    figure 4 "ML" 34 [] ∷  -- a mobile station with an azimuth
    figure 26 "4  1E1850B 20Stadtplatz                           " 26 [] ∷  -- the zero of the source's example is meant to be the letter O
    figure 26 "4  1E1850B 2OStadtplatz                           " 0 [] ∷
    []

-- What the definitions make of these.
pub record Worked : Type 0 where
  pub traps_hold : AllHold traps
  -- Station S breaks no rule, read or typed, and has one spelling.
  pub s_code : station_code s ≡ 0
  pub s_typed : typed_code (value_of s) ≡ 0
  pub s_spelling : spell_station (value_of s) ≡ record_from spelled_s
  -- As a line it goes out in full, 13Z with its spaces, and short fields come in as the same station.
  pub s_line : line_of (value_of s) ≡ line_s
  pub s_kept : station_in_line kept_s ≡ value_of s
  -- Rules come last, long fields before them, and the number of semicolons first.
  pub rule_last : (refusal (line_outcome whole_power) ≡ 9) × (code_with (line_outcome whole_power) ≡ 15)
  pub long_field : refusal (line_outcome long_class) ≡ 11
  pub semicolons_first : refusal (line_outcome field_lost) ≡ 10
  -- Two of them are twins. Ending number 1's 13X in 002 writes 2 rows, and no row is bad then.
  pub two_judged : sheet_of two ≡ two_sheet
  pub two_mended : replaced_sheet two two_sheet 1 (s_with 30 "AUT2311AB01A002") ≡ mended_sheet
  pub two_rows : replaced_rows two two_sheet 1 (s_with 30 "AUT2311AB01A002") ≡ 2
  -- The judged sheet is right. The mended one, beside the list as it was, is wrong at its second twin's low byte; and an old sheet is refused.
  pub two_right : finding_of two two_sheet ≡ finding.Right
  pub two_wrong : finding_of two mended_sheet ≡ finding.WrongAt 7
  pub two_old : finding_of two old_two_sheet ≡ finding.Refused
  -- One site, one place. A station that breaks a rule clashes with none: the third's clash goes with the second's, and two rows are written.
  pub site_judged : sheet_of one_site ≡ one_site_sheet
  pub site_broken : replaced_sheet one_site one_site_sheet 2 (s_with 3 "9") ≡ broken_site_sheet
  pub site_rows : replaced_rows one_site one_site_sheet 2 (s_with 3 "9") ≡ 2
  -- A valid header alone, count 0.
  pub header_alone : sheet_of (record_from (samples.header_of "     0")) ≡ alone_sheet
  -- A count that is not n is code 15, in a sheet alone.
  pub wrong_count : filed_header_code (record_from (samples.header_of "     3")) 2 ≡ 15
  pub count_unasked : header_code (record_from (samples.header_of "     3")) ≡ 0
  -- A zero is no letter O, an @ stands in the e-mail alone, [ in no text, and the header's date may not be blank.
  pub zero_for_o : header_code (header_with 3 "0") ≡ 3
  pub at_in_text : header_code (header_with 8 "m@muster            ") ≡ 8
  pub bracket : header_code (header_with 6 "[43 1 5550100       ") ≡ 6
  pub blank_date : header_code (header_with 10 "        ") ≡ 10
  -- Showing field 30 of record 2 answers its 13X; the header has no field 15.
  pub shown : shown_field two 2 30 ≡ bytes "AUT2311AB01A001"
  pub not_shown : shown_field two 0 15 ≡ []
  pub no_field : refusal (show_outcome two 0 15) ≡ 8
