-- Rows past the last row given keep what they held, and a refused call changes no row.
use mathlib.Core.Path.{◌≡◌, refl, ◌∙◌}
use mathlib.Core.Bool.{false}
use mathlib.Core.List.{List}
use Prim.Native.Nat.{ℕ, ◌+◌, ◌-◌, ◌≤◌}
use native.Mathlib.Omega.{arith}
use lib.ListN.{length, get_or, drop}
use lib.Seq.{get_or-append-add, get_or-drop}
use Rattle.basics.proofs.RefusalLaws.{done}
use Rattle.operator_pages.specs.declared.OperatorRow.{OperatorRow}
use Rattle.operator_pages.specs.Calls.{no_row, page_outcome, rows_for, page_answer, rows_after}
use Rattle.operator_pages.proofs.PageLaws.{rows_none}

module _ (file : List ℕ) (old : List OperatorRow) where
  pub kept : (i : ℕ) → (page_answer file (length old)).rows ≤ i → get_or (rows_after file old) i no_row ≡ get_or old i no_row
  unfolding page_answer rows_after
  kept i l =
      let n = length (rows_for file (length old)) in
      let e : i ≡ length (rows_for file (length old)) + (i - length (rows_for file (length old))) = omega arith in
      rw e (get_or-append-add (rows_for file (length old)) (drop n old) (i - n) no_row ∙ get_or-drop n old (i - n) no_row)

  pub untouched : done (page_outcome file (length old)) ≡ false → ((page_answer file (length old)).rows ≡ 0) × (rows_after file old ≡ old)
  unfolding page_answer rows_after
  untouched d = rw (rows_none file (length old) d) (refl, refl)
