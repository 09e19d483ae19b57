-- Two clerks at the boundary: `desk_replace` of two numbers, in either order, from a file and the sheet judged from it.
use mathlib.Core.Path.{◌≡◌, sym, ap, ◌∙◌}
use mathlib.Core.List.{List, [], ◌∷◌}
use Prim.Native.Nat.{ℕ}
use Rattle.sheet.specs.Sheets.{sheet_of}
use Rattle.replacing.specs.Calls.{after_all, replaced_file, replaced_sheet}
use Rattle.replacing.proofs.EitherOrder.{either_order}
use Rattle.desk_sheets.specs.Promises.{FilingReplaced}

-- Two calls one after the other leave what a run of the two does.
two_calls : (file sheet : List ℕ) (i j : ℕ) (r s : List ℕ) {a b m n : ℕ} {f g x y : List ℕ}
    → FilingReplaced file sheet i r a f x m → FilingReplaced f x j s b g y n
    → (g ≡ (after_all (file, sheet) ((i, r) ∷ (j, s) ∷ [])).0) × (y ≡ (after_all (file, sheet) ((i, r) ∷ (j, s) ∷ [])).1)
unfolding after_all
two_calls file sheet i j r s p q = (
  q.1 ∙ rw (p.1, p.2),
  q.2 ∙ rw (p.1, p.2),
)

-- Whoever comes first, the file and the sheet that both leave are the same, refused calls and headers among them.
pub either_order_of_calls : (file sheet : List ℕ) → sheet ≡ sheet_of file → (i j : ℕ) (r s : List ℕ) → (i ≡ j → ⊥)
    → {a b c d k l m n : ℕ} {f g f' g' x y x' y' : List ℕ}
    → FilingReplaced file sheet i r a f x k → FilingReplaced f x j s b g y l
    → FilingReplaced file sheet j s c f' x' m → FilingReplaced f' x' i r d g' y' n
    → (g ≡ g') × (y ≡ y')
either_order_of_calls file sheet judged i j r s ne p q p' q' =
    let first = two_calls file sheet i j r s p q in
    let second = two_calls file sheet j i s r p' q' in
    let same : after_all (file, sheet) ((i, r) ∷ (j, s) ∷ []) ≡ after_all (file, sheet) ((j, s) ∷ (i, r) ∷ []) = rw judged (either_order file i j r s ne) in
    (first.0 ∙ ap (λ (z : List ℕ × List ℕ). z.0) same ∙ sym second.0, first.1 ∙ ap (λ (z : List ℕ × List ℕ). z.1) same ∙ sym second.1)
