-- The figures marked P hold of the rules, computed from the definitions.
use mathlib.Core.Path.{refl}
use Rattle.columns.specs.Sets.{among, is_hex, is_narrow, is_text, is_name}
use Rattle.columns.specs.Texts.{skip, trimmed, every, how_many, each, byte_good, same, one_of}
use Rattle.numerals.specs.Numbers.{leading, number_from, whole_digits, whole_of, unsigned, signed_of}
use Rattle.decimals.specs.Decimals.{fraction_of, magnitude_of, decimal_of}
use Rattle.days.specs.Dates.{date_rule, date_in, date_reads, date_of, day_good, day_of}
use Rattle.formats.specs.Tenths.{tenths_good, tenths_of}
use Rattle.frequencies.specs.Frequencies.{amount_good, unit_good, unit_of, frequency_of}
use Rattle.distances.specs.Distances.{radius_of, ground_of, height_good, height_of}
use Rattle.positions.specs.Positions.{arc_seconds, arc_good, arc_of, position_good, position_of}
use Rattle.emissions.specs.Emission.{bandwidth_good, detail_good, emission_good}
use Rattle.remarks.specs.Remarks.{cell_good, installation_good, remarks_good}
use Rattle.fields.specs.Rows.{◌&◌}
use Rattle.basics.specs.Rules.{first_broken}
use Rattle.station.specs.Places.{fields_of}
use Rattle.station.specs.Rules.{field_rules}
use Rattle.station_groups.specs.Asked.{round_antenna}
use Rattle.station.specs.Between.{between_rules}
use Rattle.station.specs.Values.{station_of}
use Rattle.station.specs.Codes.{station_code, value_of}
use Rattle.figures.specs.Figures.{FigureHolds, AllHold, table}

pub figures_hold : AllHold table
unfolding FigureHolds among is_hex is_narrow is_text is_name skip trimmed every how_many each byte_good same one_of leading number_from whole_digits whole_of unsigned signed_of fraction_of magnitude_of decimal_of date_rule date_in date_reads date_of day_good day_of tenths_good tenths_of amount_good unit_good unit_of frequency_of radius_of ground_of height_good height_of arc_seconds arc_good arc_of position_good position_of bandwidth_good detail_good emission_good cell_good installation_good remarks_good first_broken fields_of field_rules round_antenna between_rules station_of value_of station_code
figures_hold =
    (refl, refl) & (refl, refl) & (refl, refl) & (refl, refl) & (refl, refl) & (refl, refl) & (refl, refl) & (refl, refl) &
    (refl, refl) & (refl, refl) & (refl, refl) & tt
