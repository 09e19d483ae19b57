-- The examples hold, computed from the definitions.
use mathlib.Core.Path.{refl}
use Rattle.columns.specs.Texts.{every, skip}
use Rattle.numerals.specs.Numbers.{leading, number_from, whole_digits, whole_of}
use Rattle.traces.specs.Traces.{save_at, saved_number, saved_record, can_run, begun, stops_at, ran_of, asked}
use Rattle.traces.specs.Examples.{Examples}

pub examples : Examples
unfolding every skip leading number_from whole_digits whole_of save_at saved_number saved_record can_run begun stops_at ran_of asked
examples =
    record {
      size = refl;
      header = refl;
      last = refl;
      all_begin = refl;
      all_run = refl;
      none_stops = refl;
      space_stops = refl;
      before_the_space = refl;
      cut_begins = refl;
      cut_stops = refl;
      before_the_cut = refl;
      nothing = refl;
    }
