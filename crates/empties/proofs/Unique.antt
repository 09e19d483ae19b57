-- There is one empty header and one empty station.
use mathlib.Core.Path.{◌≡◌, sym, ◌∙◌}
use Rattle.header.specs.declared.Header.{Header}
use Rattle.station.specs.declared.Station.{Station}
use Rattle.empties.specs.Promises.{HeaderEmpty, StationEmpty}

-- Two answers of `empty_header` are equal,
pub one_empty_header : (a b : Header) → HeaderEmpty a → HeaderEmpty b → a ≡ b
one_empty_header a b p q = p ∙ sym q

-- and two of `empty_station`.
pub one_empty_station : (a b : Station) → StationEmpty a → StationEmpty b → a ≡ b
one_empty_station a b p q = p ∙ sym q
