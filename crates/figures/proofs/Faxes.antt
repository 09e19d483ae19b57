-- A filled fax is judged, read as none, written as spaces and shown as it stands, computed from the definitions.
use mathlib.Core.Path.{refl}
use Rattle.columns.specs.Sets.{among, is_text, is_mail}
use Rattle.columns.specs.Texts.{skip, every, each, byte_good, same, text_good}
use Rattle.numerals.specs.Numbers.{leading, number_from, whole_digits, whole_of, spell_digits}
use Rattle.days.specs.Dates.{date_rule, date_in, date_reads, date_of, day_of, date_good, spell_date, spell_day}
use Rattle.serials.specs.Serials.{serial_good, serial_of, spell_serial}
use Rattle.basics.specs.Rules.{first_broken}
use Rattle.basics.specs.Outcomes.{refusal, if_done, first_refusal}
use Rattle.files.specs.Files.{stations, record_at, too_long, not_records}
use Rattle.places.specs.Places.{places_of, field_count}
use Rattle.showing.specs.Showing.{field_at, show_outcome, shown_field}
use Rattle.header.specs.Places.{header_fields}
use Rattle.header.specs.Rules.{header_rules}
use Rattle.header.specs.Values.{header_of}
use Rattle.header.specs.Spelling.{header_pieces, spell_header}
use Rattle.header.specs.Codes.{header_value, header_code}
use Rattle.figures.specs.Faxes.{NoFax}

pub no_fax : NoFax
unfolding among is_text is_mail skip every each byte_good same text_good leading number_from whole_digits whole_of spell_digits date_rule date_in date_reads date_of day_of date_good spell_date spell_day serial_good serial_of spell_serial first_broken refusal if_done first_refusal stations record_at too_long not_records places_of field_at field_count show_outcome shown_field header_fields header_rules header_of header_pieces spell_header header_value header_code
no_fax = record {
  filled_passes = refl;
  blank_passes = refl;
  at_breaks = refl;
  indent_breaks = refl;
  read_without = refl;
  written_blank = refl;
  shown_filled = refl;
}
