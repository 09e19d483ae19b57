-- Document 01, "Worked figures": what is printed of the two-station file and of a header alone, from their sheets.
use mathlib.Core.Path.{◌≡◌, refl}
use mathlib.Core.List.{List, [], ◌∷◌, ◌++◌}
use Prim.Native.Nat.{ℕ}
use Prim.Native.String.{String}
use Rattle.numerals.specs.Numbers.{spell_digits}
use Rattle.columns.specs.Texts.{bytes, every}
use Rattle.forms.specs.Forms.{page_row, bad_at, head_at}
use Rattle.printing.specs.Lines.{places, decimal, line_feed, header_line, station_line, total_line, broken_line}
use Rattle.report_rows.specs.Rows.{row_line}
use Rattle.reports.specs.Reports.{sheet_lines, sheet_report}

-- A line and its end.
abbrev line : String → List ℕ
line text = bytes text ++ line_feed

-- A valid header with count 2 and station S twice: the sheet 00 00 00 00 00 00 00 01 00 00 00 14 05 00 00 02 00 01 32 43.
pub two-stations : sheet_report (0 ∷ 0 ∷ 0 ∷ 0 ∷ 0 ∷ 0 ∷ 0 ∷ 1 ∷ 0 ∷ 0 ∷ 0 ∷ 20 ∷ 5 ∷ 0 ∷ 0 ∷ 2 ∷ 0 ∷ 1 ∷ 50 ∷ 67 ∷ []) 2
    ≡ line "header 0" ++ (line "station 2 code 0 twin 1 clash 0" ++ line "stations 2 bad 1")
unfolding sheet_report sheet_lines header_line row_line station_line total_line head_at bad_at page_row every decimal places spell_digits
two-stations = refl

-- A valid header alone, count 0: the sheet 00 0A 05 00 00 00 00 00 32 43.
pub header_alone : sheet_report (0 ∷ 10 ∷ 5 ∷ 0 ∷ 0 ∷ 0 ∷ 0 ∷ 0 ∷ 50 ∷ 67 ∷ []) 0 ≡ line "header 0" ++ line "stations 0 bad 0"
unfolding sheet_report sheet_lines header_line total_line head_at decimal places spell_digits
header_alone = refl

-- Numbers of three, two and one digit.
pub three-widths : station_line 298 39 257 60 ≡ line "station 298 code 39 twin 257 clash 60"
unfolding station_line decimal places spell_digits
three-widths = refl

-- A station that breaks a rule, in a list.
pub in_its_place : broken_line 298 7 ≡ line "station 298 code 7"
unfolding broken_line decimal places spell_digits
in_its_place = refl
