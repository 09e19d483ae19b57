-- Rows of a page in fixed places of bytes, as callers in C get them; a number has its high byte first, as in a sheet.
use Rattle.std.specs.Prelude.{ℕ, List, ◌++◌, replicate, Option, Some, None}
use Rattle.forms.specs.Forms.{number}
use Rattle.operator_pages.specs.declared.OperatorRow.{OperatorRow}

-- A row has twenty-two bytes.
abbrev pub operator_width : ℕ
operator_width = 22

-- A frequency in hundredths of a hertz: a number of eight bytes, or spaces where there is none.
unfoldable pub spell_hundredths : Option ℕ → List ℕ
spell_hundredths None = replicate 8 32
spell_hundredths (Some v) = number 8 v

-- Bytes 1-2 the operator's code, 3-4 its stations, 5-6 those with a transmit frequency,
unfoldable pub spell_head : List ℕ → ℕ → ℕ → List ℕ
spell_head code n t = code ++ (number 2 n ++ number 2 t)

-- 7-14 the lowest and 15-22 the highest of these.
unfoldable pub spell_row : OperatorRow → List ℕ
spell_row y = spell_head y.code y.tally.stations y.tally.transmitting ++ (spell_hundredths y.tally.lowest ++ spell_hundredths y.tally.highest)
