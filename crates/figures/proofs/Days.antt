-- Real days are taken and others refused, computed from the definitions.
use mathlib.Core.Path.{refl}
use Rattle.columns.specs.Sets.{among, is_hex, is_narrow, is_text, is_name, is_mail}
use Rattle.columns.specs.Texts.{skip, trimmed, every, how_many, each, byte_good, same, one_of, text_good}
use Rattle.numerals.specs.Numbers.{leading, number_from, whole_digits, whole_of, unsigned, signed_of, spell_digits, spell_signed}
use Rattle.decimals.specs.Decimals.{fraction_of, magnitude_of, decimal_of, spell_magnitude, spell_decimal}
use Rattle.days.specs.Dates.{date_rule, date_in, date_reads, date_of, day_good, day_of, date_good, day_fits, spell_date, spell_day, date_fits}
use Rattle.formats.specs.Tenths.{tenths_good, tenths_of, tenths_fit, spell_tenths}
use Rattle.frequencies.specs.Frequencies.{amount_good, unit_good, unit_of, frequency_of, frequency_fits, unit_letter, spell_amount, spell_unit}
use Rattle.distances.specs.Distances.{radius_of, ground_of, height_good, height_of, radius_fits, ground_fits, height_fits, spell_radius, spell_ground, spell_height}
use Rattle.positions.specs.Positions.{arc_seconds, arc_good, arc_of, position_good, position_of, position_fits, spell_arc, spell_position}
use Rattle.emissions.specs.Emission.{bandwidth_good, detail_good, emission_good}
use Rattle.remarks.specs.Remarks.{cell_good, installation_good, remarks_good}
use Rattle.fields.specs.Rows.{◌&◌}
use Rattle.basics.specs.Rules.{first_broken}
use Rattle.station.specs.Places.{fields_of}
use Rattle.station.specs.Rules.{field_rules, typed_rules}
use Rattle.station_groups.specs.Asked.{round_antenna}
use Rattle.station.specs.Between.{between_rules}
use Rattle.station.specs.Values.{station_of}
use Rattle.station.specs.Spelling.{station_pieces, spell_station}
use Rattle.station.specs.Codes.{value_of, station_code, typed_code}
use Rattle.semicolons.specs.Fields.{trimmed_field, padded_field}
use Rattle.semicolons.specs.Lines.{line_of, before, behind, split, line_fields, is_line}
use Rattle.semicolons.specs.Lines as lines
use Rattle.lists.specs.Calls.{line_outcome, station_in_line}
use Rattle.header.specs.Places.{header_fields}
use Rattle.serials.specs.Serials.{serial_good, serial_of}
use Rattle.header.specs.Values.{header_of}
use Rattle.header.specs.Rules.{header_rules}
use Rattle.header.specs.Codes.{header_value, header_code, filed_header_code}
use Rattle.files.specs.Files.{stations, record_at, with_record, too_long, not_records}
use Rattle.places.specs.Places.{places_of, field_count}
use Rattle.showing.specs.Showing.{field_at, show_outcome, shown_field}
use Rattle.stations.specs.Stations.{code_at, reference_at}
use Rattle.forms.specs.Forms.{page_row, bad_at, trailer_of, closed, head_at, fits_form}
use Rattle.sheet.specs.Sheets.{twin_at, row_of, judged_sheet, sheet_of}
use Rattle.mending.specs.Replacing.{touched, mended_row, writes, rows_written}
use Rattle.mending.specs.Replacing as replacing
use Rattle.replacing.specs.Calls.{replace_outcome, replaced_sheet, replaced_rows}
use Rattle.basics.specs.Outcomes.{refusal, code_with, if_done, first_refusal}
use Rattle.station.specs.Calls.{write_outcome}
use Rattle.figures.specs.Days.{RealDays}

pub real_days : RealDays
unfolding among is_hex is_narrow is_text is_name skip trimmed every how_many each byte_good same one_of leading number_from whole_digits whole_of unsigned signed_of fraction_of magnitude_of decimal_of date_rule date_in date_reads date_of day_good day_of tenths_good tenths_of amount_good unit_good unit_of frequency_of radius_of ground_of height_good height_of arc_seconds arc_good arc_of position_good position_of bandwidth_good detail_good emission_good cell_good installation_good remarks_good first_broken fields_of field_rules round_antenna between_rules station_of value_of station_code is_mail text_good date_good serial_good serial_of header_of header_fields header_rules header_value header_code filed_header_code stations record_at with_record reference_at code_at too_long not_records places_of field_at field_count twin_at row_of page_row bad_at trailer_of closed judged_sheet sheet_of head_at fits_form touched mended_row replacing.mended_sheet writes rows_written refusal code_with if_done first_refusal replace_outcome replaced_sheet replaced_rows show_outcome shown_field frequency_fits day_fits radius_fits ground_fits height_fits position_fits tenths_fit typed_rules typed_code spell_digits spell_magnitude spell_decimal spell_signed spell_date spell_day spell_tenths unit_letter spell_amount spell_unit spell_radius spell_ground spell_height spell_arc spell_position station_pieces spell_station trimmed_field padded_field line_of before behind split line_fields is_line lines.record_of line_outcome station_in_line write_outcome date_fits
real_days = record {
  station_takes = refl;
  station_refuses = refl;
  header_takes = refl;
  header_refuses = refl;
  leap_day = refl;
  no_day = refl;
  header_leap_day = refl;
  header_no_day = refl;
  typed_leap_day = refl;
  typed_no_day = refl;
  typed_request = refl;
  typed_agreement = refl;
  typed_header = (refl, refl);
  not_written = refl;
  not_listed = (refl, refl);
}
