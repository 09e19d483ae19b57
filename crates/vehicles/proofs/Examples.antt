-- The examples hold, computed from the definitions.
use mathlib.Core.Path.{refl}
use Rattle.columns.specs.Texts.{every, same}
use Rattle.basics.specs.Outcomes.{first_refusal}
use Rattle.vehicles.specs.Digits.{sum_from, is_number, last_right}
use Rattle.vehicles.specs.Names.{name_of, holds_number, number_in}
use Rattle.vehicles.specs.Examples.{Examples}

pub examples : Examples
unfolding every same first_refusal sum_from is_number last_right name_of holds_number number_in
examples = record { sum_before = refl; passes = refl; digit_changed = refl; neighbours_swapped = refl; eleven = refl; letter = refl; name = refl; found = refl; wrong_last = refl; other_name = refl }
