-- Rows spelled one after the other, and the bytes that a page leaves.
use mathlib.Core.Path.{◌≡◌, refl, sym, ap, ◌∙◌}
use mathlib.Core.Bool.{false}
use mathlib.Core.List.{List, [], ◌∷◌, ◌++◌, append_assoc, append-nil}
use Prim.Native.Nat.{ℕ}
use Rattle.basics.proofs.RefusalLaws.{done}
use Rattle.operator_pages.specs.declared.OperatorRow.{OperatorRow}
use Rattle.operator_pages.specs.Calls.{page_outcome, rows_for}
use Rattle.operator_pages.proofs.PageLaws.{rows_none}
use Rattle.desk_operators.specs.Rows.{spell_row}
use Rattle.desk_operators.specs.Promises.{spelled_rows, bytes_after}

-- rows behind rows
spelled_behind : (rows more : List OperatorRow) → spelled_rows (rows ++ more) ≡ spelled_rows rows ++ spelled_rows more
unfolding spelled_rows
spelled_behind [] more = refl
spelled_behind (y ∷ rows) more = ap (λ (l : List ℕ). spell_row y ++ l) (spelled_behind rows more) ∙ sym (append_assoc (spell_row y) (spelled_rows rows) (spelled_rows more))

-- One row more is spelled behind the others.
pub spelled_more : (rows : List OperatorRow) (y : OperatorRow) → spelled_rows (rows ++ (y ∷ [])) ≡ spelled_rows rows ++ spell_row y
unfolding spelled_rows
spelled_more rows y = spelled_behind rows (y ∷ []) ∙ ap (λ (l : List ℕ). spelled_rows rows ++ l) (append-nil (spell_row y))

-- A refused page leaves every byte as it was.
pub refused_bytes : (file out : List ℕ) (room : ℕ) → done (page_outcome file room) ≡ false → out ≡ bytes_after (rows_for file room) out
unfolding bytes_after spelled_rows
refused_bytes file out room d = rw (rows_none file room d) refl
