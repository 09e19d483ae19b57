-- Document 01, "The sheet": the lines that the programs print, each ended by a line feed. A line is the list of its bytes.
use Rattle.std.specs.Prelude.{ℕ, cond, List, [], ◌∷◌, ◌++◌, ltb}
use Prim.Native.String.{String}
use Rattle.columns.specs.Texts.{bytes}
use Rattle.numerals.specs.Numbers.{spell_whole}

-- How many digits a number below 1,000 has.
unfoldable pub places : ℕ → ℕ
places v = cond (ltb v 10) 1 (cond (ltb v 100) 2 3)

-- A number below 1,000 in plain decimal.
unfoldable pub decimal : ℕ → List ℕ
decimal v = spell_whole (places v) v

-- A number and the words before it.
abbrev pub labelled : String → ℕ → List ℕ
labelled label v = bytes label ++ decimal v

-- What ends a line.
abbrev pub line_feed : List ℕ
line_feed = 10 ∷ []

-- `refused R`
unfoldable pub refused_line : ℕ → List ℕ
refused_line r = labelled "refused " r ++ line_feed

-- `header C`
unfoldable pub header_line : ℕ → List ℕ
header_line c = labelled "header " c ++ line_feed

-- `station K code C twin T clash H`
unfoldable pub station_line : ℕ → ℕ → ℕ → ℕ → List ℕ
station_line k c t h = labelled "station " k ++ (labelled " code " c ++ (labelled " twin " t ++ (labelled " clash " h ++ line_feed)))

-- `stations N bad B`
unfoldable pub total_line : ℕ → ℕ → List ℕ
total_line n b = labelled "stations " n ++ (labelled " bad " b ++ line_feed)

-- `station K code C`, in a list where a station's own line would stand
unfoldable pub broken_line : ℕ → ℕ → List ℕ
broken_line k c = labelled "station " k ++ (labelled " code " c ++ line_feed)
