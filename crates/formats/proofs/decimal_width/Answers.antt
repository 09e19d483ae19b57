-- `formats::decimal_width` meets its contract, format by format.
use mathlib.Core.Path.{sym, ap}
use Rattle.formats.specs.Formats.{format_width}
use Rattle.formats.proofs.decimal_width.Goals as goal

pub returns-in-Frequency : goal.returns-in-Frequency
returns-in-Frequency c = sym (ap format_width c.in-Frequency.is)

pub returns-in-Power : goal.returns-in-Power
returns-in-Power c = sym (ap format_width c.in-Power.is)

pub returns-in-Azimuth : goal.returns-in-Azimuth
returns-in-Azimuth c = sym (ap format_width c.in-Azimuth.is)

pub returns-in-Elevation : goal.returns-in-Elevation
returns-in-Elevation c = sym (ap format_width c.in-Elevation.is)

pub returns-in-Gain : goal.returns-in-Gain
returns-in-Gain c = sym (ap format_width c.in-Gain.is)
