-- Document 01, "Worked figures": station S and a valid header, field by field.
use Rattle.std.specs.Prelude.{ℕ, ◌-◌, List, [], ◌∷◌, ◌++◌, set}
use Prim.Native.String.{String}
use Rattle.columns.specs.Texts.{bytes}

-- The record of its fields' texts.
abbrev pub record_from : List String → List ℕ
record_from [] = []
record_from (t ∷ ts) = bytes t ++ record_from ts

-- Station S.
abbrev pub station_s : List String
station_s =
    "  938.2    " ∷  -- 1A
    "M" ∷  -- its unit
    "2" ∷  -- 1Z
    "FB" ∷  -- 6A
    "CP" ∷  -- 6B
    "L " ∷  -- 6Z
    "1" ∷  -- 10Z
    "01032021" ∷  -- 2C
    "1010_MUSTER         " ∷  -- 4A
    "AUT" ∷  -- 4B
    "016E220548N1200" ∷  -- 4C
    "    0" ∷  -- 4D
    " 180" ∷  -- 4Z
    "5M00G7W  " ∷  -- 7A
    "  30.0" ∷  -- 8B1
    "E" ∷  -- 8B2
    "120.0" ∷  -- 9A
    " -2.0" ∷  -- 9B
    "V " ∷  -- 9D
    "17.0" ∷  -- 9G
    "  30" ∷  -- 9Y
    "000ND00" ∷  -- 9XH
    "000ND00" ∷  -- 9XV
    "  893.2    " ∷  -- 1Y
    "M" ∷  -- its unit
    "                                                  " ∷  -- 13Z
    "B" ∷  -- 13Y
    "        " ∷  -- 2W
    "        " ∷  -- 2Z
    "AUT2311AB01A001" ∷  -- 13X
    []

-- A valid header whose count is the text of six columns.
abbrev pub header_of : String → List String
header_of count =
    " 1" ∷  -- number
    "Quarterly filing                                                                " ∷  -- content
    "O" ∷  -- letter
    "AUT" ∷  -- country of origin
    "desk_1@example.at                       " ∷  -- e-mail
    "+43 1 5550100       " ∷  -- telephone
    "                    " ∷  -- fax
    "M. Muster           " ∷  -- person
    count ∷  -- count
    "01042023" ∷  -- date
    "AUT" ∷  -- country of destination
    "      " ∷  -- file number
    "1.0" ∷  -- version
    "       " ∷  -- reserve
    []

-- Station S with another text in field number k.
abbrev pub s_with : ℕ → String → List ℕ
s_with k t = record_from (set station_s (k - 1) t)

-- The valid header of no stations with another text in field number k.
abbrev pub header_with : ℕ → String → List ℕ
header_with k t = record_from (set (header_of "     0") (k - 1) t)
