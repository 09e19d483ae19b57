-- A page as the code holds it has the lines of its rows.
use mathlib.Core.Path.{◌≡◌, refl, sym, ap, ◌∙◌}
use mathlib.Core.Bool.{true, false}
use mathlib.Core.List.{List, [], ◌∷◌, ◌++◌}
use Prim.Native.Nat.{ℕ, zero, suc, ◌+◌, ◌-◌, ◌<◌}
use native.Mathlib.Omega.{arith}
use lib.ListN.{length, get_or}
use Rattle.basics.specs.Outcomes.{refusal, if_done, Outcome}
use Rattle.basics.proofs.RefusalLaws.{done, if_done_lem, if_refused}
use Rattle.files.specs.Files.{stations}
use Rattle.forms.specs.Counting.{rows}
use Rattle.printing.specs.Lines.{refused_line}
use Rattle.operator_counts.specs.Counts.{operators}
use Rattle.operator_pages.specs.declared.OperatorRow.{OperatorRow}
use Rattle.operator_pages.specs.declared.Page.{Page}
use Rattle.operator_pages.specs.Pages.{page_of, stations_on}
use Rattle.operator_pages.specs.Calls.{page_outcome, rows_for, no_row, page_row}
use Rattle.operator_pages.specs.Promises.{PageFound}
use Rattle.operator_pages.proofs.PageLaws.{rows_all}
use Rattle.operator_pages.proofs.FoundLaws.{answer_is, same_row, same_texts}
use Rattle.operator_lines.specs.Lines.{operator_line, operators_line, row_lines, operators_of, page_line, page_sum, page_lines}

-- the stations of rows, the first apart
sum_shift : (g : ℕ → ℕ) (s : ℕ → ℕ) (s' : ℕ → ℕ) → (s 0 ≡ 0) → (s' 0 ≡ 0) → ((n : ℕ) → s (suc n) ≡ s n + g n) → ((n : ℕ) → s' (suc n) ≡ s' n + g (suc n)) → (n : ℕ) → s (suc n) ≡ g 0 + s' n
sum_shift g s s' z z' e e' zero = omega (arith, e 0, z, z')
sum_shift g s s' z z' e e' (suc n) = omega (arith, e (suc n), e' n, sum_shift g s s' z z' e e' n)

-- what is summed of rows by their numbers
sum_of : (ℕ → OperatorRow) → ℕ → ℕ
sum_of f zero = 0
sum_of f (suc n) = sum_of f n + (f n).tally.stations

sum_all : (ys : List OperatorRow) (f : ℕ → OperatorRow) → ((i : ℕ) → i < length ys → f i ≡ get_or ys i no_row) → sum_of f (length ys) ≡ stations_on ys
unfolding sum_of stations_on
sum_all [] f e = refl
sum_all (y ∷ ys) f e =
    let first : f 0 ≡ y = e 0 (omega arith) in
    let rest : sum_of (λ i. f (suc i)) (length ys) ≡ stations_on ys = sum_all ys (λ i. f (suc i)) (λ i l. e (suc i) (omega arith)) in
    sum_shift (λ i. (f i).tally.stations) (sum_of f) (sum_of (λ i. f (suc i))) refl refl (λ n. refl) (λ n. refl) (length ys)
    ∙ rw (first, rest)

page_sum_lem : (p : Page) (n : ℕ) → page_sum p n ≡ sum_of (page_row p) n
unfolding sum_of
page_sum_lem p zero = refl
page_sum_lem p (suc n) = ap (λ (m : ℕ). m + (page_row p n).tally.stations) (page_sum_lem p n)

-- The page p of a file was found, where there is room for so many rows: its stations are those of the rows that are given.
module _ (file : List ℕ) (room : ℕ) (p : Page) (found : PageFound file room p) where
  same_sum : page_sum p (length (rows_for file room)) ≡ stations_on (rows_for file room)
  same_sum = page_sum_lem p (length (rows_for file room)) ∙ sum_all (rows_for file room) (page_row p) (same_row file room p found)

-- There was room for every operator.
module _ (file : List ℕ) (p : Page) (found : PageFound file operators p) where
  -- What is printed is its refusal's line where it is refused,
  pub refused_lines : done (page_outcome file operators) ≡ false → operators_of file ≡ refused_line (refusal p.answer.outcome)
  unfolding operators_of
  refused_lines d =
      if_refused (page_outcome file operators) (row_lines (page_of file) (stations file)) (refused_line (refusal (page_outcome file operators))) d
      ∙ ap (λ (o : Outcome). refused_line (refusal o)) (sym (answer_is file operators p found).0)

  -- and else its lines and the total.
  pub whole_lines : done (page_outcome file operators) ≡ true → (n : ℕ) → n ≡ stations file → operators_of file ≡ page_lines p p.answer.rows n
  unfolding operators_of row_lines page_lines
  whole_lines d n e =
      let given = rows_for file operators in
      let m = length given in
      let lines = rows (λ k. operator_line (get_or given (k - 1) no_row)) m in
      if_done_lem (page_outcome file operators) (row_lines (page_of file) (stations file)) (refused_line (refusal (page_outcome file operators))) d
      ∙ sym
      (ap (λ (k : ℕ). page_lines p k n) (answer_is file operators p found).1
      ∙ ap (λ (t : List ℕ). t ++ operators_line m (page_sum p m) n) (same_texts file operators p found operator_line)
      ∙ ap (λ (s : ℕ). lines ++ operators_line m s n) (same_sum file operators p found)
      ∙ ap (λ (s : ℕ). lines ++ operators_line m (stations_on given) s) e
      ∙ ap (λ (r : List OperatorRow). row_lines r (stations file)) (rows_all file operators d))
