-- Small lines, computed.
use Rattle.std.specs.Prelude.{◌≡◌, refl, true, false, [], ◌∷◌, ◌++◌}
use Rattle.columns.specs.Texts.{bytes, how_many}
use Rattle.semicolons.specs.Lines.{before, behind, split, line_fields}
use Rattle.faults.specs.Faults.{marks_of, has_marks, no_field, first_longer, long_field}

-- Two semicolons, and a line feed at the end: no line yet,
two_semicolons : marks_of (bytes "FB;;7" ++ (10 ∷ [])) ≡ record { semicolons = 2; feeds = 1; ended = true }
unfolding marks_of how_many
two_semicolons = refl

-- nor is it one with a carriage return behind its line feed.
not-ended : marks_of (10 ∷ 13 ∷ []) ≡ record { semicolons = 0; feeds = 1; ended = false }
unfolding marks_of how_many
not-ended = refl

-- Twenty-nine, one and the last byte are those of a line.
line_marks : has_marks (record { semicolons = 29; feeds = 1; ended = true }) ≡ true
unfolding has_marks
line_marks = refl

-- The unit of 1A has one column; `MHz` is longer.
unit_too_long : long_field (bytes "938.2;MHz;2;FBX") ≡ record { number = 2; length = 3; most = 1 }
unfolding long_field line_fields split before behind first_longer
unit_too_long = refl

-- A reference that a carriage return goes with is the thirtieth field.
reference_too_long : long_field (bytes ";;;;;;;;;;;;;;;;;;;;;;;;;;;;;AUT2311AB01A001" ++ (13 ∷ 10 ∷ [])) ≡ record { number = 30; length = 16; most = 15 }
unfolding long_field line_fields split before behind first_longer
reference_too_long = refl

-- Fields that fill their columns are not too long.
none_too_long : long_field (bytes "00938.20000;M;2;FB") ≡ no_field
unfolding long_field line_fields split before behind first_longer
none_too_long = refl
