-- What the code alone wants that respells a record where it stands: the pieces of two runs of columns. Nothing is meant here that the table of fields does not say.
use Rattle.std.specs.Prelude.{ℕ, Bool, true, false, List, [], ◌∷◌, take, drop}
use Rattle.formats.specs.Tenths.{tenths_of, spell_tenths}
use Rattle.distances.specs.Distances.{radius_of, spell_radius, ground_of, spell_ground, height_of, spell_height}
use Rattle.positions.specs.Positions.{position_of, spell_position}

-- A decimal in its one spelling.
abbrev pub decimal_anew : ℕ → Bool → List ℕ → List ℕ
decimal_anew a sign p = spell_tenths a 1 sign (tenths_of a 1 sign p)

-- 4C, 4D and 4Z in their one spelling, of columns 52 to 75,
unfoldable pub location_anew : List ℕ → List (List ℕ)
location_anew s = spell_position (position_of (take 15 s)) ∷ spell_radius (radius_of (take 5 (drop 15 s))) ∷ spell_height (height_of (take 4 (drop 20 s))) ∷ []

-- and 8B1 to 9Y, of columns 85 to 111: 8B2 and 9D between them stay.
unfoldable pub beam_anew : List ℕ → List (List ℕ)
beam_anew s =
    decimal_anew 3 true (take 6 s)
    ∷ take 1 (drop 6 s)
    ∷ decimal_anew 3 false (take 5 (drop 7 s))
    ∷ decimal_anew 2 true (take 5 (drop 12 s))
    ∷ take 2 (drop 17 s)
    ∷ decimal_anew 2 false (take 4 (drop 19 s))
    ∷ spell_ground (ground_of (take 4 (drop 23 s)))
    ∷ []
