-- The examples hold, computed from the definitions.
use mathlib.Core.Path.{refl}
use Rattle.columns.specs.Texts.{how_many}
use Rattle.station.specs.Places.{fields_of}
use Rattle.vehicles.specs.Names.{name_of}
use Rattle.semicolons.specs.Fields.{padded_field}
use Rattle.semicolons.specs.Lines.{before, behind}
use Rattle.carriage_lines.specs.Lines.{is_carriage_line, behind_fields, field_behind, carriage_pieces, carriage_record}
use Rattle.carriage_lines.specs.Examples.{Examples}

pub examples : Examples
unfolding how_many fields_of name_of padded_field before behind is_carriage_line behind_fields field_behind carriage_pieces carriage_record
examples = record { marked = refl; cut_off = refl; one_more = refl; number = refl; fields = refl; short = refl; long_unit = refl; padded = refl; named = refl; whole = refl }
