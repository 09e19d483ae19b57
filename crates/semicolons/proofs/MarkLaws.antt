-- Where a field ends, place by place, and where the next one begins.
use mathlib.Core.Path.{◌≡◌, refl, sym, ap, ◌∙◌}
use mathlib.Core.Bool.{true, false}
use mathlib.Core.List.{List, [], ◌∷◌, ◌++◌, append_assoc, append-nil}
use Prim.Native.Nat.{ℕ, suc, ◌+◌, ◌-◌, ◌≤◌, ◌<◌}
use native.Mathlib.Omega.{arith}
use native.Mathlib.Numerals.{add-one}
use lib.ListN.{length, get_or, set, take, drop, length-append, length-drop, drop_of_length-le}
use lib.Seq.{drop-cons, drop-drop, length-take-le, take-suc, take-suc-set}
use Rattle.semicolons.specs.Lines.{is_mark, before, behind}
use Rattle.semicolons.specs.Marks.{Passed, Ends}

module _ (s : List ℕ) (i : ℕ) (p : Passed s i) where
  -- a byte that is no mark is passed,
  pub pass_on : i < length s → is_mark (get_or s i 0) ≡ false → Passed s (i + 1)
  unfolding before behind
  pass_on h e =
      let x = get_or s i 0 in
      let rest = before (drop (suc i) s) in
      let more : before (drop i s) ≡ x ∷ rest = rw (drop-cons s i 0 h, e) in
      let same : behind (drop i s) ≡ behind (drop (suc i) s) = rw (drop-cons s i 0 h, e) in
      let joins : take i s ++ (x ∷ rest) ≡ take (suc i) s ++ rest = rw (take-suc s i 0 h) (sym (append_assoc (take i s) (x ∷ []) rest)) in
      rw (add-one i) (h, p.1 ∙ ap (λ (l : List ℕ). take i s ++ l) more ∙ joins, p.2 ∙ same)

  -- the field ends before a mark,
  pub mark_ends : i < length s → is_mark (get_or s i 0) ≡ true → Ends s i
  unfolding before behind
  mark_ends h e =
      let none : before (drop i s) ≡ [] = rw (drop-cons s i 0 h, e) in
      let next : behind (drop i s) ≡ drop (suc i) s = rw (drop-cons s i 0 h, e) in
      rw (add-one i) (p.0, p.1 ∙ ap (λ (l : List ℕ). take i s ++ l) none ∙ append-nil (take i s), p.2 ∙ next)

  -- and where no byte is left
  pub text_ends : length s ≤ i → Ends s i
  unfolding before behind
  text_ends h =
      let none : before (drop i s) ≡ [] = rw (drop_of_length-le s {i = i} h) in
      let next : behind (drop i s) ≡ drop (i + 1) s = rw (drop_of_length-le s {i = i} h, drop_of_length-le s {i = i + 1} (omega arith)) in
      (p.0, p.1 ∙ ap (λ (l : List ℕ). take i s ++ l) none ∙ append-nil (take i s), p.2 ∙ next)

-- One byte more of a text, copied to its place.
pub copied_on : (s columns : List ℕ) (i : ℕ) → i < length s → i < length columns → take i columns ≡ take i s → take (i + 1) (set columns i (get_or s i 0)) ≡ take (i + 1) s
copied_on s columns i h l e = rw (add-one i) (take-suc-set columns i (get_or s i 0) l ∙ ap (λ (t : List ℕ). t ++ (get_or s i 0 ∷ [])) e ∙ sym (take-suc s i 0 h))

-- A field that goes on behind i bytes is longer than those.
pub longer : (s : List ℕ) (i : ℕ) → Passed s i → i ≤ length (before s)
longer s i p = omega (arith, ap length p.1, length-append (take i s) (before (drop i s)), length-take-le i s p.0)

-- The field that begins at a place, where it ends and where the next one begins.
pub field_found : (line : List ℕ) (at n : ℕ) (rest : List ℕ) → at ≤ length line → rest ≡ drop at line
    → (n ≤ length rest) × (before rest ≡ take n rest) × (behind rest ≡ drop (n + 1) rest)
    → (take n rest ≡ before (drop at line)) × (at + length (take n rest) ≤ length line) × (drop (at + length (take n rest) + 1) line ≡ behind (drop at line))
field_found line at n rest h e f =
    let size : length (take n rest) ≡ n = length-take-le n rest f.0 in
    let all : length rest ≡ length line - at = ap length e ∙ length-drop at line in
    let sum : at + n + 1 ≡ at + (n + 1) = omega arith in (
      sym f.1 ∙ ap before e,
      rw size (omega (arith, f.0)),
      rw (size, sum) (sym (drop-drop (n + 1) at line) ∙ ap (drop (n + 1)) (sym e) ∙ sym f.2 ∙ ap behind e),
    )
