-- A carriage's line taken apart, and its fields as they stand in the record.
use Rattle.std.specs.Prelude.{◌≡◌, true, false, List, [], ◌∷◌, ◌++◌, ℕ, length, replicate}
use Rattle.columns.specs.Texts.{bytes}
use Rattle.basics.specs.Fields.{at}
use Rattle.semicolons.specs.Fields.{none_longer}
use Rattle.carriage_lines.specs.Lines.{is_carriage_line, carriage_number, own_fields, own_places, own_pieces, carriage_pieces, carriage_record}

-- A line of the paper's number.
abbrev pub line : List ℕ
line = bytes "318166502860;456.5;M;-10.0;AUT2611AB01A001" ++ (10 ∷ [])

-- What the definitions make of it.
pub record Examples : Type 0 where
  -- It has its marks, and not without its line feed or with one field more.
  pub marked : is_carriage_line line ≡ true
  pub cut_off : is_carriage_line (bytes "318166502860;456.5;M;-10.0;AUT2611AB01A001") ≡ false
  pub one_more : is_carriage_line (bytes ";" ++ line) ≡ false
  -- The number comes first, then four fields,
  pub number : carriage_number line ≡ bytes "318166502860"
  pub fields : own_fields line ≡ bytes "456.5" ∷ bytes "M" ∷ bytes "-10.0" ∷ bytes "AUT2611AB01A001" ∷ []
  -- none of them too long, which are padded on their sides.
  pub short : none_longer own_places (own_fields line) ≡ true
  pub long_unit : none_longer own_places (own_fields (bytes "1;1;MHz;1;1" ++ (10 ∷ []))) ≡ false
  pub padded : own_pieces line ≡ bytes "      456.5" ∷ bytes "M" ∷ bytes " -10.0" ∷ bytes "AUT2611AB01A001" ∷ []
  -- In blank defaults the name stands as field 9, and the record has 219 bytes.
  pub named : at (carriage_pieces line (replicate 219 32)) 9 ≡ bytes "9999_318166502860_R "
  pub whole : length (carriage_record line (replicate 219 32)) ≡ 219
