-- A table whose rows are as wide as their kinds ask: what is written of values that fit is read back, and what is read can be written.
use mathlib.Core.Path.{◌≡◌, sym, ap, subst, ◌∙◌}
use mathlib.Core.Bool.{Bool, true, ◌&&◌}
use mathlib.Core.List.{List, [], ◌∷◌}
use Prim.Native.Nat.{ℕ, suc, ◌+◌, ◌-◌}
use native.Mathlib.Omega.{arith}
use native.Mathlib.Numerals.{add-one}
use lib.ListN.{length, get_or, drop}
use lib.Seq.{get_or-drop, drop-drop}
use Rattle.columns.proofs.TextLaws.{and_split}
use Rattle.basics.specs.Fields.{at}
use Rattle.basics.specs.Rules.{All}
use Rattle.basics.proofs.FieldLaws.{Wide}
use Rattle.fields.specs.Rows.{Row, meant, places_of, rules_from, Values, values_from, fits_of, spelt_of}
use Rattle.fields.proofs.KindLaws.{Lawful, as_wide, lawful}

-- Each row has as many columns as its kind asks for: one computed test.
abbrev pub sound : List Row → Bool
sound [] = true
sound (r ∷ rs) = as_wide r.kind r.length && sound rs

pub row_sound : (r : Row) (rs : List Row) → sound (r ∷ rs) ≡ true → (as_wide r.kind r.length ≡ true) × (sound rs ≡ true)
row_sound r rs s = and_split (as_wide r.kind r.length) (sound rs) s

abbrev row_lawful : (r : Row) (rs : List Row) → sound (r ∷ rs) ≡ true → Lawful r.length (meant r)
row_lawful r rs s = lawful r.kind r.length (row_sound r rs s).0

-- What amounts and units ask of one another, from field number k on.
abbrev pub Beside : (k : ℕ) (t : List Row) → sound t ≡ true → List (List ℕ) → Values t → Type 0
Beside k [] s f v = Unit {0}
Beside k (r ∷ rs) s f v = (row_lawful r rs s).Beside f k v.0 (Beside (suc k) rs (row_sound r rs s).1 f v.1)

-- The pieces have the widths of their places,
pub table_wide : (t : List Row) (v : Values t) → sound t ≡ true → All (fits_of t v) → Wide (places_of t) (spelt_of t v)
table_wide [] v s h = tt
table_wide (r ∷ rs) v s h = ((row_lawful r rs s).wide v.0 h.0, table_wide rs v.1 (row_sound r rs s).1 h.1)

-- field number i + 1, and those behind it
first_is : (i : ℕ) (f : List (List ℕ)) (p : List ℕ) (ps : List (List ℕ)) → drop i f ≡ p ∷ ps → at f (suc i) ≡ p
first_is i f p ps d =
    let number : suc i - 1 ≡ i + 0 = omega arith in
    ap (λ (n : ℕ). get_or f n []) number ∙ sym (get_or-drop i f 0 []) ∙ ap (λ (g : List (List ℕ)). get_or g 0 []) d

behind_is : (i : ℕ) (f : List (List ℕ)) (p : List ℕ) (ps : List (List ℕ)) → drop i f ≡ p ∷ ps → drop (suc i) f ≡ ps
behind_is i f p ps d = ap (λ (n : ℕ). drop n f) (sym (add-one i)) ∙ sym (drop-drop 1 i f) ∙ ap (drop 1) d

-- keep the rules
pub table_kept : (i : ℕ) (t : List Row) (f : List (List ℕ)) (v : Values t) (s : sound t ≡ true) → drop i f ≡ spelt_of t v → All (fits_of t v) → Beside (suc i) t s f v → All (rules_from (suc i) t f)
table_kept i [] f v s d h b = tt
table_kept i (r ∷ rs) f v s d h b =
    let m = meant r in
    let l = row_lawful r rs s in
    let R = Beside (suc (suc i)) rs (row_sound r rs s).1 f v.1 in
    let here : at f (suc i) ≡ m.spelt v.0 = first_is i f (m.spelt v.0) (spelt_of rs v.1) d in
    let next : drop (suc i) f ≡ spelt_of rs v.1 = behind_is i f (m.spelt v.0) (spelt_of rs v.1) d in
    (l.kept f (suc i) v.0 R here h.0 b, table_kept (suc i) rs f v.1 (row_sound r rs s).1 next h.1 (l.behind f (suc i) v.0 R b))

-- and say the values.
pub table_back : (i : ℕ) (t : List Row) (f : List (List ℕ)) (v : Values t) (s : sound t ≡ true) → drop i f ≡ spelt_of t v → All (fits_of t v) → Beside (suc i) t s f v → values_from (suc i) t f ≡ v
table_back i [] f v s d h b = λ j. tt
table_back i (r ∷ rs) f v s d h b =
    let m = meant r in
    let l = row_lawful r rs s in
    let R = Beside (suc (suc i)) rs (row_sound r rs s).1 f v.1 in
    let here : at f (suc i) ≡ m.spelt v.0 = first_is i f (m.spelt v.0) (spelt_of rs v.1) d in
    let next : drop (suc i) f ≡ spelt_of rs v.1 = behind_is i f (m.spelt v.0) (spelt_of rs v.1) d in
    let first : m.value f (suc i) ≡ v.0 = l.back f (suc i) v.0 R here h.0 b in
    let rest : values_from (suc (suc i)) rs f ≡ v.1 = table_back (suc i) rs f v.1 (row_sound r rs s).1 next h.1 (l.behind f (suc i) v.0 R b) in
    λ j. (first j, rest j)

front : (q : ℕ × ℕ) (qs : List (ℕ × ℕ)) (ps : List (List ℕ)) → Wide (q ∷ qs) ps → (length (get_or ps 0 []) ≡ q.1) × Wide qs (drop 1 ps)
front q qs [] w = absurd w
front q qs (p ∷ ps) w = w

-- Fields that have their widths and keep the rules say values that fit.
pub table_read : (i : ℕ) (t : List Row) (f : List (List ℕ)) → sound t ≡ true → Wide (places_of t) (drop i f) → All (rules_from (suc i) t f) → All (fits_of t (values_from (suc i) t f))
table_read i [] f s w h = tt
table_read i (r ∷ rs) f s w h =
    let u = front (r.first, r.length) (places_of rs) (drop i f) w in
    let number : i + 0 ≡ suc i - 1 = omega arith in
    let here : get_or (drop i f) 0 [] ≡ at f (suc i) = get_or-drop i f 0 [] ∙ ap (λ (n : ℕ). get_or f n []) number in
    let next : drop 1 (drop i f) ≡ drop (suc i) f = drop-drop 1 i f ∙ ap (λ (n : ℕ). drop n f) (add-one i) in
    ((row_lawful r rs s).read f (suc i) (sym (ap length here) ∙ u.0) h.0, table_read (suc i) rs f (row_sound r rs s).1 (subst (Wide (places_of rs)) next u.1) h.1)
