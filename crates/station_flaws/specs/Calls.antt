-- Document 02, wish 7: the flaw that comes with the code of a record.
use Rattle.std.specs.Prelude.{ℕ, List}
use Rattle.basics.specs.Outcomes.{code_with}
use Rattle.flaws.specs.declared.Flaw.{Flaw}
use Rattle.coordination_flaws.specs.Flaws.{record_flaw}
use Rattle.station.specs.Codes.{station_code}
use Rattle.station.specs.Calls.{read_outcome}

-- The flaw of a record's first broken code,
unfoldable pub station_flaw : List ℕ → Flaw
station_flaw r = record_flaw r (station_code r)

-- and that of the code that comes with a refused reading; with any other refusal than 9 there is none.
unfoldable pub flaw_of_reading : List ℕ → Flaw
flaw_of_reading r = record_flaw r (code_with (read_outcome r))
