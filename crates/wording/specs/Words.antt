-- Document 02, wish 7: what people read of fields and flaws.
use Rattle.std.specs.Prelude.{ℕ, zero, suc, Bool, true, false, ◌&&◌, List, [], ◌∷◌, length, leb}
use Rattle.std.specs.Borrow.{Bor}
use Rattle.columns.specs.Texts.{bytes, same}
use Rattle.fields.specs.Rows.{Row, row_behind}
use Rattle.fields.specs.Table.{station_table}
use Rattle.flaws.specs.declared.Flaw.{Flaw}
use Rattle.flaws.specs.declared.Flaw.TheVariants as flaw

-- A flaw in words, behind a space; none has no words.
abbrev pub flaw_words : Flaw → List ℕ
flaw_words flaw.None = []
flaw_words flaw.Byte = bytes " byte not admitted"
flaw_words flaw.Range = bytes " out of range"
flaw_words flaw.Shape = bytes " cannot be read"
flaw_words flaw.Between = bytes " between fields"

-- The name of field number k, as the table has it; none where there is no such field.
unfoldable pub name_at : ℕ → List ℕ
name_at zero = []
name_at (suc i) = bytes (row_behind station_table i).name

-- Texts are the names of a table's rows, each of at most ten bytes.
abbrev pub named : List (Bor (List ℕ)) → List Row → Bool
named names [] = true
named [] (r ∷ rs) = false
named (n ∷ names) (r ∷ rs) = same n.now (bytes r.name) && (leb (length n.now) 10 && named names rs)
