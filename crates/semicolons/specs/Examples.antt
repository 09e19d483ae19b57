-- Small fields and lines: what goes out, what comes in, and what is a line.
use Rattle.std.specs.Prelude.{◌≡◌, false, [], ◌∷◌, ◌++◌}
use Rattle.columns.specs.Texts.{bytes}
use Rattle.semicolons.specs.Fields.{trimmed_field, padded_field}
use Rattle.semicolons.specs.Lines.{joined_line, split, is_line, lines_of}
use Rattle.semicolons.specs.declared.Side.TheVariants as side

-- What the definitions make of these.
pub record Examples : Type 0 where
  -- 8B1 goes out without the space of its sign column,
  pub power_out : trimmed_field side.Left (bytes " 030.0") ≡ bytes "030.0"
  -- and comes in with it.
  pub power_in : padded_field side.Left 6 (bytes "030.0") ≡ bytes " 030.0"
  -- 4B goes out without its last space,
  pub country_out : trimmed_field side.Right (bytes "AB ") ≡ bytes "AB"
  -- and comes in with it.
  pub country_in : padded_field side.Right 3 (bytes "AB") ≡ bytes "AB "
  -- A blank field goes out with no byte, and comes in as spaces.
  pub blank_out : trimmed_field side.Left (bytes "   ") ≡ []
  pub blank_in : padded_field side.Left 3 [] ≡ bytes "   "
  -- 13Z goes out untrimmed.
  pub remarks_out : trimmed_field side.Kept (bytes "3 A ") ≡ bytes "3 A "
  -- Three fields in a line, the second of them blank,
  pub short_line : joined_line (bytes "FB" ∷ [] ∷ bytes "7" ∷ []) ≡ 70 ∷ 66 ∷ 59 ∷ 59 ∷ 55 ∷ 10 ∷ []
  -- are found in it again,
  pub short_split : split 3 (70 ∷ 66 ∷ 59 ∷ 59 ∷ 55 ∷ 10 ∷ []) ≡ bytes "FB" ∷ [] ∷ bytes "7" ∷ []
  -- but without twenty-nine semicolons it is no station's line.
  pub short_refused : is_line (70 ∷ 66 ∷ 59 ∷ 59 ∷ 55 ∷ 10 ∷ []) ≡ false
  -- A list of two lines is cut into them,
  pub two_lines : lines_of (bytes "FB" ++ (10 ∷ (bytes "ML" ++ (10 ∷ [])))) ≡ (70 ∷ 66 ∷ 10 ∷ []) ∷ (77 ∷ 76 ∷ 10 ∷ []) ∷ []
  -- the second one may lack its line feed,
  pub cut_off : lines_of (bytes "FB" ++ (10 ∷ bytes "ML")) ≡ (70 ∷ 66 ∷ 10 ∷ []) ∷ (77 ∷ 76 ∷ []) ∷ []
  -- an empty line is one,
  pub empty_line : lines_of (10 ∷ []) ≡ (10 ∷ []) ∷ []
  -- and nothing is none.
  pub no_line : lines_of [] ≡ []
