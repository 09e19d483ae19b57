-- What the call on a typed station promises, as a relation between what it is given and its answer.
use Rattle.std.specs.Prelude.{◌≡◌}
use Rattle.station.specs.Codes.{typed_code}
use Rattle.station.specs.declared.Station.{Station}
use Rattle.typed_flaws.specs.Calls.{typed_flaw}
use Rattle.typed_flaws.specs.declared.TypedExplained.{TypedExplained}

-- `explain_typed` on a typed station: the first rule that it breaks, and the flaw that comes with it.
abbrev pub TypedStationExplained : Station → TypedExplained → Type 0
TypedStationExplained s answer = (answer.code ≡ typed_code s) × (answer.flaw ≡ typed_flaw s)
