-- Rows put one after the other from the front of a list, and what that leaves of a page.
use mathlib.Core.Path.{◌≡◌, refl, sym, ◌∙◌, ap}
use mathlib.Core.List.{List, ◌++◌}
use Prim.Native.Nat.{ℕ, zero, suc, ◌+◌, ◌-◌, ◌≤◌}
use native.Mathlib.Nat.{le_refl}
use native.Mathlib.Omega.{arith}
use lib.ListN.{length, get_or, set, take, drop, replicate, length-set, length-append}
use lib.Seq.{set_at, take-suc, drop-cons, length-take-le, append_snoc}
use Rattle.operator_counts.specs.Counts.{operators}
use Rattle.operator_pages.specs.declared.OperatorRow.{OperatorRow}
use Rattle.operator_pages.specs.declared.PageAnswer.{PageAnswer}
use Rattle.operator_pages.specs.declared.Page.{Page}
use Rattle.operator_pages.specs.Calls.{page_row, no_row, page_outcome, rows_for, page_answer, rows_after, blank_row, filled_up, paged}
use Rattle.operator_pages.specs.Promises.{PageFound}
use Rattle.operator_pages.proofs.PageLaws.{front_rows, rows_fit}

-- ys with f 0 to f (n - 1) put in front.
abbrev pub put_to {ℓ} : {A : Type ℓ} → (ℕ → A) → ℕ → List A → List A
put_to f zero ys = ys
put_to f (suc n) ys = set (put_to f n ys) n (f n)

module _ {ℓ} {A : Type ℓ} where
  pub put-length : (f : ℕ → A) (n : ℕ) (ys : List A) → length (put_to f n ys) ≡ length ys
  put-length f zero ys = refl
  put-length f (suc n) ys = length-set (put_to f n ys) n (f n) ∙ put-length f n ys

  -- the elements of a list l, put from the front
  put-take : (l : List A) (d : A) (n : ℕ) (ys : List A) → n ≤ length l → n ≤ length ys → put_to (λ i. get_or l i d) n ys ≡ take n l ++ drop n ys
  put-take l d zero ys a b = refl
  put-take l d (suc n) ys a b =
      ap (λ (zs : List A). set zs n (get_or l n d)) (put-take l d n ys (omega arith) (omega arith) ∙ ap (λ (zs : List A). take n l ++ zs) (drop-cons ys n d (omega arith))) ∙
      set_at (take n l) (get_or ys n d) (drop (suc n) ys) (get_or l n d) n (length-take-le n l (omega arith)) ∙
      sym (append_snoc (take n l) (get_or l n d) (drop (suc n) ys)) ∙
      ap (λ (zs : List A). zs ++ drop (suc n) ys) (sym (take-suc l n d (omega arith)))

-- A page that was found has the call's answer,
pub page_answered : (file : List ℕ) (room : ℕ) (p : Page) → PageFound file room p → p.answer ≡ page_answer file room
unfolding page_answer paged
page_answered file room p e = ap (λ (q : Page). q.answer) e

-- and its rows put in front leave the lent rows as the call has to.
pub page_put : (file : List ℕ) (ys : List OperatorRow) (p : Page) → PageFound file (length ys) p → put_to (page_row p) p.answer.rows ys ≡ rows_after file ys
unfolding rows_after paged filled_up
page_put file ys p e =
    let given = rows_for file (length ys) in
    let enough : length given ≤ length (filled_up given) = omega (arith, length-append given (replicate (operators - length given) blank_row)) in
    ap (λ (q : Page). put_to (page_row q) q.answer.rows ys) e
    ∙ put-take (filled_up given) no_row (length given) ys enough (rows_fit file (length ys)).1
    ∙ ap (λ (l : List OperatorRow). l ++ drop (length given) ys) (front_rows given)
