-- Document 02, wish 7: what is wrong with a field. The wish's "kind" is called a flaw here, since a field's kind is what its entry in the table says.
use Rattle.std.specs.Prelude.{ℕ, Bool, true, false, cond, ◌||◌, List, [], ◌∷◌, eqb}
use Rattle.columns.specs.Texts.{every}
use Rattle.flaws.specs.declared.Flaw.{Flaw}
use Rattle.flaws.specs.declared.Flaw.TheVariants as flaw

-- The number of a flaw.
abbrev pub flaw_number : Flaw → ℕ
flaw_number flaw.None = 0
flaw_number flaw.Byte = 1
flaw_number flaw.Range = 2
flaw_number flaw.Shape = 3
flaw_number flaw.Between = 4

-- Nothing is wrong.
abbrev pub flawless : Flaw → Bool
flawless flaw.None = true
flawless flaw.Byte = false
flawless flaw.Range = false
flawless flaw.Shape = false
flawless flaw.Between = false

-- A byte that is one of some letters.
unfoldable pub letter_of : List ℕ → ℕ → Bool
letter_of [] c = false
letter_of (x ∷ xs) c = eqb c x || letter_of xs c

-- The flaw of a text that cannot be read: a byte that is admitted at no place, else its shape.
abbrev pub unread : (ℕ → Bool) → List ℕ → Flaw
unread admits p = cond (every admits p) flaw.Shape flaw.Byte

-- The flaw of a value that is read: outside its range, or none.
abbrev pub ranged : Bool → Flaw
ranged within = cond within flaw.None flaw.Range
