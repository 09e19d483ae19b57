-- Document 01, "Then across fields": the rules between fields, codes 31 to 39, as a second table. They are stated once, on typed values, and count only
-- where rules 1 to 30 hold. (Rules 2 and 25, which ask a unit of its amount, stand in the first table as its kind `unit`.)
use Rattle.std.specs.Prelude.{ℕ, Bool, not, List, [], ◌∷◌, eqb}
use Rattle.columns.specs.Sets.{is}
use Rattle.columns.specs.Texts.{bytes, head, trimmed, same, ends_in}
use Rattle.frequencies.specs.Frequencies.{has_frequency}
use Rattle.formats.specs.Tenths.{has_tenths}
use Rattle.distances.specs.Distances.{has_height}
use Rattle.fields.specs.Table.{meant_at}
use Rattle.station_groups.specs.Asked.{round_antenna, never}
use Rattle.station.specs.Members.{values_of, value_at}
use Rattle.station.specs.declared.Station.{Station}

-- What is said of a station.
abbrev pub Fact : Type 0
Fact = Station → Bool

-- The value of field number k passes a test.
abbrev pub on : (k : ℕ) → ((meant_at k).Value → Bool) → Fact
on k test s = test (value_at (values_of s) k)

abbrev pub isnt : Fact → Fact
isnt fact s = not (fact s)

-- 6A begins with M.
abbrev pub mobile : Fact
mobile = on 4 (λ p. is "M" (head p))

-- Each row has two facts that never stand together.
abbrev pub between_table : List (Fact × Fact)
between_table =
    (isnt (on 1 has_frequency), isnt (on 24 has_frequency)) ∷  -- 31 neither 1A nor 1Y filled
    (isnt (on 1 has_frequency), on 15 has_tenths) ∷  -- 32 1A blank, 8B1 filled
    (isnt mobile, isnt (on 12 (λ r. eqb r.0 0))) ∷  -- 33 6A does not begin with M, 4D not 0
    (mobile, on 17 has_tenths) ∷  -- 34 6A begins with M, 9A filled
    (isnt (on 17 has_tenths), isnt (on 22 round_antenna)) ∷  -- 35 9A blank, 9XH not 000ND00
    (isnt (on 18 has_tenths), isnt (on 23 round_antenna)) ∷  -- 36 9B blank, 9XV not 000ND00
    (mobile, on 13 has_height) ∷  -- 37 6A begins with M, 4Z filled
    (on 24 has_frequency, isnt (on 20 has_tenths)) ∷  -- 38 1Y filled, 9G blank
    (on 4 (same (bytes "FL")), isnt (on 9 (λ p. ends_in "_R" (trimmed p)))) ∷  -- 39 6A is FL and the name, trailing spaces off, does not end in _R
    []

-- The rules of such a table.
abbrev pub never_of : List (Fact × Fact) → Station → List Bool
never_of [] s = []
never_of (r ∷ rs) s = never (r.0 s) (r.1 s) ∷ never_of rs s

-- Codes 31 to 39.
unfoldable pub between_rules : Station → List Bool
between_rules s = never_of between_table s
