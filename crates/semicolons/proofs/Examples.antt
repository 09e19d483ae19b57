-- The examples hold, computed from the definitions.
use mathlib.Core.Path.{refl}
use Rattle.semicolons.specs.Fields.{trimmed_field, padded_field}
use Rattle.columns.specs.Texts.{trimmed, skip, how_many}
use Rattle.semicolons.specs.Lines.{split, before, behind, is_line, lines_from}
use Rattle.semicolons.specs.Examples.{Examples}

pub examples : Examples
unfolding trimmed_field trimmed skip padded_field split before behind is_line how_many lines_from
examples = record { power_out = refl; power_in = refl; country_out = refl; country_in = refl; blank_out = refl; blank_in = refl; remarks_out = refl; short_line = refl; short_split = refl; short_refused = refl; two_lines = refl; cut_off = refl; empty_line = refl; no_line = refl }
