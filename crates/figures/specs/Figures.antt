-- Document 01, "Worked figures": those marked P, as one table under one statement.
use Rattle.std.specs.Prelude.{ℕ, ◌≡◌, cond, List, [], ◌∷◌, eqb, ℤ, pos, neg_ℤ, Option, Some, None}
use Prim.Native.String.{String}
use Rattle.frequencies.specs.declared.Frequency.{Frequency}
use Rattle.station.specs.Codes.{station_code, value_of}
use Rattle.station.specs.declared.Station.{Station}
use Rattle.figures.specs.Samples.{s_with}
use Rattle.distances.specs.declared.Metres.{Metres}

-- The numbers that a value says, none where it is blank.
abbrev pub amounts : Option Frequency → List ℤ
amounts None = []
amounts (Some f) = pos f.amount ∷ []

abbrev pub tenth : Option ℤ → List ℤ
tenth None = []
tenth (Some z) = z ∷ []

abbrev pub metres_of : Option Metres → List ℤ
metres_of None = []
metres_of (Some m) = m.0 ∷ []

-- The numbers of the field of a code: 1A, 4C, 4Z, 8B1, 9A and 9B.
abbrev pub numbers : ℕ → Station → List ℤ
numbers k s =
    cond (eqb k 1) (amounts s.channel.transmit)
    (cond (eqb k 11) (s.site.position.east ∷ s.site.position.north ∷ [])
    (cond (eqb k 13) (metres_of s.site.height)
    (cond (eqb k 15) (tenth s.emission.power)
    (cond (eqb k 17) (tenth s.emission.azimuth)
    (cond (eqb k 18) (tenth s.emission.elevation) [])))))

-- A figure: station S with a text in the field of a code has a code, and where that is 0 the field says these numbers.
pub record Figure : Type 0 where
  pub field : ℕ
  pub text : String
  pub code : ℕ
  pub says : List ℤ

unfoldable pub FigureHolds : Figure → Type 0
FigureHolds g =
    let r = s_with g.field g.text in
    (station_code r ≡ g.code) × (cond (eqb g.code 0) (numbers g.field (value_of r)) [] ≡ g.says)

-- All of a table.
abbrev pub AllHold : List Figure → Type 0
AllHold [] = Unit {0}
AllHold (g ∷ gs) = FigureHolds g × AllHold gs

abbrev pub figure : ℕ → String → ℕ → List ℤ → Figure
figure k t c zs = record { field = k; text = t; code = c; says = zs }

abbrev pub minus : ℕ → ℤ
minus n = neg_ℤ (pos n)

-- The figures marked P.
abbrev pub table : List Figure
table =
    figure 15 "  -5.0" 0 (minus 50 ∷ []) ∷
    figure 15 "-005.0" 0 (minus 50 ∷ []) ∷
    figure 15 " -.5  " 0 (minus 5 ∷ []) ∷
    figure 15 "  -0.0" 0 (pos 0 ∷ []) ∷
    figure 15 "- 5.0 " 15 [] ∷
    figure 1 "  938.2    " 0 (pos 93820000 ∷ []) ∷
    figure 11 "016E22 548N12 0" 0 (pos 58925 ∷ pos 173520 ∷ []) ∷
    figure 11 "180E000000N0000" 0 (pos 648000 ∷ pos 0 ∷ []) ∷
    figure 11 "180E000100N0000" 11 [] ∷
    figure 17 "359.9" 0 (pos 3599 ∷ []) ∷
    figure 17 "360.0" 17 [] ∷
    []
