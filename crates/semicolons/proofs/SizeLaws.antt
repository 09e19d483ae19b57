-- How long a line can be whose fields are no longer than their columns.
use mathlib.Core.Path.{◌≡◌, refl, sym, ◌∙◌}
use mathlib.Core.Bool.{Bool, true, false, cond, ◌||◌}
use mathlib.Core.List.{List, [], ◌∷◌}
use Prim.Native.Nat.{ℕ, ◌+◌, ◌-◌, ◌≤◌}
use native.Mathlib.Omega.{arith}
use lib.Dec.{leb, eqb}
use lib.ListN.{length}
use borrow.Author.Tests.{eqb-true, leb-true}
use Rattle.columns.specs.Texts.{how_many}
use Rattle.columns.proofs.TextLaws.{and_split}
use Rattle.station.specs.Places.{station_places}
use Rattle.semicolons.specs.Fields.{none_longer}
use Rattle.semicolons.specs.Lines.{is_semicolon, is_feed, is_mark, before, behind, split, line_fields, last_byte, is_line, longest_line}
use Rattle.semicolons.proofs.LineLaws.{last_cons}
use Rattle.semicolons.proofs.CountLaws.{ends_counted}
use Rattle.semicolons.proofs.WidthLaws.{columns_of}

-- What a text has to do with its first field and the rest behind the mark: it is no longer than both and the mark, and the rest
-- has a mark less and the same last byte.
abbrev Parted : List ℕ → List ℕ → List ℕ → Type 0
Parted t p r = (length r ≤ length t) × (length t ≤ length p + 1 + length r) × (how_many is_mark r ≤ how_many is_mark t - 1) × (1 ≤ length r → last_byte r ≡ last_byte t)

part_on : (c : ℕ) (t : List ℕ) (b : Bool) → is_mark c ≡ b → Parted t (before t) (behind t) → Parted (c ∷ t) (before (c ∷ t)) (behind (c ∷ t))
unfolding before behind how_many
part_on c t true e h = rw e (omega arith, omega arith, omega arith, λ n. sym (last_cons c t n))
part_on c t false e h = rw e (omega (arith, h.0), omega (arith, h.1), omega (arith, h.2), λ n. h.3 n ∙ sym (last_cons c t (omega (arith, n, h.0))))

parted : (t : List ℕ) → Parted t (before t) (behind t)
unfolding before behind how_many
parted [] = (omega arith, omega arith, omega arith, λ n. refl)
parted (c ∷ t) = part_on c t (is_mark c) refl (parted t)

-- A text of k marks, the last byte one of them, is no longer than the columns of k fields and the marks.
columns_and_marks : (qs : List (ℕ × ℕ)) (t : List ℕ) → (1 ≤ length t → is_mark (last_byte t) ≡ true) → how_many is_mark t ≤ length qs → none_longer qs (split (length qs) t) ≡ true → length t ≤ columns_of qs + length qs
unfolding split
columns_and_marks [] [] e n h = omega arith
columns_and_marks [] (c ∷ t) e n h = absurd (omega (arith, n, ends_counted is_mark (c ∷ t) (omega arith) (e (omega arith))))
columns_and_marks (q ∷ qs) t e n h =
    let g = and_split (leb (length (before t)) q.1) (none_longer qs (split (length qs) (behind t))) h in
    let p = parted t in
    let ends : 1 ≤ length (behind t) → is_mark (last_byte (behind t)) ≡ true = λ m. rw (p.3 m) (e (omega (arith, m, p.0))) in
    let rest : length (behind t) ≤ columns_of qs + length qs = columns_and_marks qs (behind t) ends (omega (arith, n, p.2)) g.1 in
    omega (arith, rest, p.1, leb-true (length (before t)) q.1 g.0)

-- Each mark is a semicolon or a line feed.
one_of_both : (a b : Bool) → cond (a || b) 1 0 ≤ cond a 1 0 + cond b 1 0
one_of_both true true = omega arith
one_of_both true false = omega arith
one_of_both false true = omega arith
one_of_both false false = omega arith

marks_counted : (t : List ℕ) → how_many is_mark t ≤ how_many is_semicolon t + how_many is_feed t
unfolding how_many
marks_counted [] = omega arith
marks_counted (c ∷ t) = omega (arith, one_of_both (is_semicolon c) (is_feed c), marks_counted t)

a_mark : (a b : Bool) → b ≡ true → a || b ≡ true
a_mark true b e = refl
a_mark false b e = e

-- So a line that is longer has a field that is too long.
pub line-length : (t : List ℕ) → is_line t ≡ true → none_longer station_places (line_fields t) ≡ true → length t ≤ longest_line
unfolding is_line line_fields
line-length t e h =
    let f = and_split (eqb (how_many is_semicolon t) 29) _ e in
    let g = and_split (eqb (how_many is_feed t) 1) (is_feed (last_byte t)) f.1 in
    let semicolons : how_many is_semicolon t ≡ 29 = eqb-true (how_many is_semicolon t) 29 f.0 in
    let feeds : how_many is_feed t ≡ 1 = eqb-true (how_many is_feed t) 1 g.0 in
    columns_and_marks station_places t (λ n. a_mark (is_semicolon (last_byte t)) (is_feed (last_byte t)) g.1) (omega (arith, semicolons, feeds, marks_counted t)) h
