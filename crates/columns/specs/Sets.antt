-- Document 01, "How columns are read": the sets of bytes. A byte is a number; a set is a test on it.
use Rattle.std.specs.Prelude.{ℕ, Bool, false, ◌&&◌, ◌||◌, leb, eqb}
use Prim.Native.Char.{Char, code}
use Prim.Native.String.{String}
use Prim.Native.String as text
use Rattle.columns.specs.declared.sets.Set.{Set}
use Rattle.columns.specs.declared.sets.Set.TheVariants as set

-- The byte of the character x.
abbrev pub is : Char → ℕ → Bool
is x c = eqb c (code x)

-- A byte from that of low up to that of high.
abbrev pub between : Char → Char → ℕ → Bool
between low high c = leb (code low) c && leb c (code high)

-- One of the characters of a text.
unfoldable pub among : String → ℕ → Bool
among text.[] c = false
among (text.◌∷◌ x s) c = is x c || among s c

abbrev pub is_digit : ℕ → Bool
is_digit c = between "0" "9" c

abbrev pub is_upper : ℕ → Bool
is_upper c = between "A" "Z" c

abbrev pub is_lower : ℕ → Bool
is_lower c = between "a" "z" c

-- Upper-case hexadecimal digits, of 13Z.
unfoldable pub is_hex : ℕ → Bool
is_hex c = is_digit c || between "A" "F" c

-- The narrow set: A-Z, 0-9 and the hyphen. The source's space is refused.
unfoldable pub is_narrow : ℕ → Bool
is_narrow c = is_upper c || is_digit c || is "-" c

-- The text set: A-Z, a-z, 0-9, + - / * . ( ) , = and space. The source's "A..z" is not the ASCII range, so [ and ^ are outside.
unfoldable pub is_text : ℕ → Bool
is_text c = is_upper c || is_lower c || is_digit c || among "+-/*.(),= " c

-- The text set and the underscore, of 4A.
unfoldable pub is_name : ℕ → Bool
is_name c = is_text c || is "_" c

-- The text set, @ and underscore, of the header's e-mail.
unfoldable pub is_mail : ℕ → Bool
is_mail c = is_text c || among "@_" c

-- The set that a name stands for.
abbrev pub set_of : Set → ℕ → Bool
set_of set.Digit = is_digit
set_of set.Upper = is_upper
set_of set.Hex = is_hex
set_of set.Narrow = is_narrow
set_of set.Text = is_text
set_of set.Name = is_name
set_of set.Mail = is_mail
