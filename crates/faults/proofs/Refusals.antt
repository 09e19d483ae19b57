-- What the calls tell of a line, and how the line is refused.
use Rattle.std.specs.Prelude.{Ok, Err}
use mathlib.Core.Path.{◌≡◌, refl, sym, ◌∙◌}
use mathlib.Core.Bool.{Bool, true, false, not, cond, ◌&&◌}
use mathlib.Core.List.{List, [], ◌∷◌}
use Prim.Native.Nat.{ℕ, suc, ◌+◌, ◌-◌, ◌≤◌, ◌<◌}
use native.Mathlib.Omega.{arith}
use lib.Dec.{leb, eqb}
use lib.ListN.{length, get_or}
use borrow.Author.Tests.{leb-false, eqb-false, ne_eqb, lt-ltb}
use Rattle.basics.specs.Fields.{at, place_of}
use Rattle.basics.specs.Outcomes.{refusal, first_refusal}
use Rattle.basics.specs.declared.Refusal.TheVariants as why
use Rattle.station.specs.Places.{station_places}
use Rattle.station.specs.Codes.{station_code}
use Rattle.semicolons.specs.Fields.{none_longer}
use Rattle.semicolons.specs.Lines.{line_fields, is_line, record_of}
use Rattle.lists.specs.Calls.{line_outcome}
use Rattle.faults.specs.Faults.{marks_of, has_marks, first_longer, long_field}
use Rattle.faults.specs.declared.LongField.{LongField}

-- No field is longer than its columns exactly where the first one that is has no number.
none_longer_lem : (k : ℕ) (qs : List (ℕ × ℕ)) (ps : List (List ℕ)) → none_longer qs ps ≡ eqb (first_longer (suc k) qs ps).number 0
unfolding first_longer
none_longer_lem k [] ps = refl
none_longer_lem k (q ∷ qs) [] = refl
none_longer_lem k (q ∷ qs) (p ∷ ps) = by (leb (length p) q.1) (none_longer_lem (suc k) qs ps)
  where
    by : (b : Bool) → none_longer qs ps ≡ eqb (first_longer (suc (suc k)) qs ps).number 0
        → b && none_longer qs ps ≡ eqb (cond b (first_longer (suc (suc k)) qs ps) (record { number = suc k; length = length p; most = q.1 })).number 0
    by true e = e
    by false e = sym (ne_eqb (suc k) 0 (λ z. omega (arith, z)))

-- the numbers of a reading's three tests
numbers : (a b z : Bool) (c : ℕ) → refusal (cond (not a) (Err why.NotALine) (cond (not b) (Err why.FieldTooLong) (cond (not z) (Err (why.RuleBroken c)) (Ok tt)))) ≡ cond a (cond b (cond z 0 9) 11) 10
unfolding refusal
numbers true true true c = refl
numbers true true false c = refl
numbers true false z c = refl
numbers false b z c = refl

-- A text is refused as its marks and its first long field say: with 10 where they are not those of a line, else with 11 where there is
-- such a field, else for a broken rule.
pub refusal_told : (t : List ℕ) → refusal (line_outcome t) ≡ cond (has_marks (marks_of t)) (cond (eqb (long_field t).number 0) (cond (eqb (station_code (record_of t)) 0) 0 9) 11) 10
unfolding line_outcome is_line has_marks marks_of long_field first_refusal
refusal_told t = numbers (is_line t) (none_longer station_places (line_fields t)) (eqb (station_code (record_of t)) 0) (station_code (record_of t)) ∙ rw (none_longer_lem 0 station_places (line_fields t))

-- which of three numbers a nest of tests gives
ten : (a b : Bool) (n : ℕ) → n < 10 → cond a (cond b n 11) 10 ≡ 10 → a ≡ false
ten true true n h e = absurd (omega (arith, h, e))
ten true false n h e = absurd (omega (arith, e))
ten false b n h e = refl

eleven : (a b : Bool) (n : ℕ) → n < 10 → cond a (cond b n 11) 10 ≡ 11 → (a ≡ true) × (b ≡ false)
eleven true true n h e = absurd (omega (arith, h, e))
eleven true false n h e = (refl, refl)
eleven false b n h e = absurd (omega (arith, e))

nine : (z : Bool) → cond z 0 9 < 10
nine true = omega arith
nine false = omega arith

-- So a text is refused with 10 exactly if its marks are not those of a line,
pub refused_10 : (t : List ℕ) → (refusal (line_outcome t) ≡ 10 → has_marks (marks_of t) ≡ false) × (has_marks (marks_of t) ≡ false → refusal (line_outcome t) ≡ 10)
refused_10 t =
    let rule = eqb (station_code (record_of t)) 0 in
    (λ e. ten (has_marks (marks_of t)) (eqb (long_field t).number 0) (cond rule 0 9) (nine rule) (sym (refusal_told t) ∙ e), λ e. refusal_told t ∙ rw e)

-- and with 11 exactly if they are, and there is a field that is too long.
pub refused_11 : (t : List ℕ)
    → (refusal (line_outcome t) ≡ 11 → (has_marks (marks_of t) ≡ true) × (1 ≤ (long_field t).number))
    × (has_marks (marks_of t) ≡ true → 1 ≤ (long_field t).number → refusal (line_outcome t) ≡ 11)
refused_11 t =
    let rule = eqb (station_code (record_of t)) 0 in
    let n = (long_field t).number in (
      λ e.
          let both = eleven (has_marks (marks_of t)) (eqb n 0) (cond rule 0 9) (nine rule) (sym (refusal_told t) ∙ e) in
          let some : n ≡ 0 → ⊥ = eqb-false n 0 both.1 in
          (both.0, omega (arith, some)),
      λ e h. refusal_told t ∙ rw (e, ne_eqb n 0 (λ z. omega (arith, z, h))),
    )

-- A field among those that begin with number k + 1, longer than the columns of its place.
abbrev Found : ℕ → List (ℕ × ℕ) → List (List ℕ) → LongField → Type 0
Found k qs ps f =
    (k < f.number) × (f.number ≤ k + length qs) × (f.length ≡ length (get_or ps (f.number - suc k) [])) × (f.most ≡ (get_or qs (f.number - suc k) (0, 0)).1) × (f.most < f.length)

-- one that is found behind the first of them
found_behind : (k : ℕ) (q : ℕ × ℕ) (qs : List (ℕ × ℕ)) (p : List ℕ) (ps : List (List ℕ)) (f : LongField) → Found (suc k) qs ps f → Found k (q ∷ qs) (p ∷ ps) f
found_behind k q qs p ps f h =
    let later : f.number - suc k ≡ suc (f.number - suc (suc k)) = omega (arith, h.0) in
    (omega (arith, h.0), omega (arith, h.1), h.2 ∙ rw later, h.3 ∙ rw later, h.4)

-- the first long field is found
found_from : (k : ℕ) (qs : List (ℕ × ℕ)) (ps : List (List ℕ)) → 1 ≤ (first_longer (suc k) qs ps).number → Found k qs ps (first_longer (suc k) qs ps)
unfolding first_longer
found_from k [] ps h = absurd (omega arith)
found_from k (q ∷ qs) [] h = absurd (omega arith)
found_from k (q ∷ qs) (p ∷ ps) h = by (leb (length p) q.1) refl (λ m. found_behind k q qs p ps (first_longer (suc (suc k)) qs ps) (found_from (suc k) qs ps m)) h
  where
    here : LongField
    here = record { number = suc k; length = length p; most = q.1 }

    by : (b : Bool) → leb (length p) q.1 ≡ b → (1 ≤ (first_longer (suc (suc k)) qs ps).number → Found k (q ∷ qs) (p ∷ ps) (first_longer (suc (suc k)) qs ps))
        → 1 ≤ (cond b (first_longer (suc (suc k)) qs ps) here).number → Found k (q ∷ qs) (p ∷ ps) (cond b (first_longer (suc (suc k)) qs ps) here)
    by true e later m = later m
    by false e later m =
        let first : suc k - suc k ≡ 0 = omega arith in
        (omega arith, omega arith, rw first, rw first, leb-false (length p) q.1 e)

-- Where `long_field` gives a number, that is one of the thirty fields, its bytes are more than its columns, and both are told.
pub long_field_is : (t : List ℕ) → 1 ≤ (long_field t).number
    → ((long_field t).number ≤ 30) × ((long_field t).length ≡ length (at (line_fields t) (long_field t).number)) × ((long_field t).most ≡ (place_of station_places (long_field t).number).length) × ((long_field t).most < (long_field t).length)
unfolding long_field place_of
long_field_is t h =
    let f = found_from 0 station_places (line_fields t) h in
    let n = (first_longer 1 station_places (line_fields t)).number in
    (f.1, f.2, f.3 ∙ rw (lt-ltb 0 n f.0), f.4)
