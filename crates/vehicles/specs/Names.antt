-- Document 02, wish 6: the name of a station on a carriage, and the vehicle number in it.
use Rattle.std.specs.Prelude.{ℕ, Bool, cond, ◌&&◌, List, [], ◌++◌, length, take, drop}
use Rattle.columns.specs.Texts.{bytes, same}
use Rattle.vehicles.specs.Digits.{number_digits, is_number, last_right}

-- What stands before the number, and behind it up to the twentieth byte.
abbrev pub before : List ℕ
before = bytes "9999_"

abbrev pub behind : List ℕ
behind = bytes "_R "

-- The name of the carriage with a number: 20 bytes.
unfoldable pub name_of : List ℕ → List ℕ
name_of t = before ++ (t ++ behind)

-- What stands in a name where a carriage's has its number.
abbrev pub middle : List ℕ → List ℕ
middle name = take number_digits (drop (length before) name)

-- A name holds a number: it is that of a carriage, and the number's last digit is right.
unfoldable pub holds_number : List ℕ → Bool
holds_number name = same (name_of (middle name)) name && (is_number (middle name) && last_right (middle name))

-- The number in a name, none where it holds none, and where it stands in it.
unfoldable pub number_in : List ℕ → List ℕ
number_in name = cond (holds_number name) (middle name) []

unfoldable pub number_offset : List ℕ → ℕ
number_offset name = cond (holds_number name) (length before) 0
