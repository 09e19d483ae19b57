-- The flaw that a reader's answer brings with it: what is bad carries it, what is read has its range's. Nothing is meant here that the parts of the kinds do not say.
use Rattle.std.specs.Prelude.{Bool, ℤ, Option, Some, None, Result, Ok, Err}
use Rattle.flaws.specs.Flaws.{ranged}
use Rattle.flaws.specs.declared.Flaw.{Flaw}
use Rattle.flaws.specs.declared.Flaw.TheVariants as flaw
use Rattle.days.specs.declared.dates.Date.{Date}
use Rattle.positions.specs.declared.Position.{Position}

-- A number,
abbrev pub number_flaw : (ℤ → Bool) → Result (Option ℤ) Flaw → Flaw
number_flaw range (Err wrong) = wrong
number_flaw range (Ok None) = flaw.None
number_flaw range (Ok (Some z)) = ranged (range z)

-- a date,
abbrev pub day_flaw : Result (Option Date) Flaw → Flaw
day_flaw (Err wrong) = wrong
day_flaw (Ok d) = flaw.None

-- and a place.
abbrev pub place_flaw : Result Position Flaw → Flaw
place_flaw (Err wrong) = wrong
place_flaw (Ok v) = flaw.None
