-- `tenths::in_range` meets its contract, format by format.
use mir.Facts.{to_z-of_z}
use Rattle.tenths.proofs.in_range.Goals as goal

pub returns-in-Azimuth : goal.returns-in-Azimuth
returns-in-Azimuth c = rw (c.in-Azimuth.is, c.magnitude.ensures, to_z-of_z c.ranges.v)

pub returns-in-Elevation : goal.returns-in-Elevation
returns-in-Elevation c = rw (c.in-Elevation.is, c.magnitude-in-Elevation.ensures, to_z-of_z c.ranges.v)
