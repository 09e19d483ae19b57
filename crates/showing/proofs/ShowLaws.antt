-- How showing ends: what no refusal tells of the record's number and the field's, and what is shown.
use mathlib.Core.Path.{◌≡◌, refl, sym, ap, ◌∙◌}
use mathlib.Core.Bool.{true, false}
use mathlib.Core.List.{List, [], ◌∷◌, ◌++◌}
use Prim.Native.Nat.{ℕ, zero, suc, ◌+◌, ◌-◌, ◌*◌, ◌≤◌}
use native.Mathlib.Omega.{arith}
use lib.ListN.{length, take, drop}
use lib.Seq.{take-take, drop-drop}
use lib.Dec.{ltb, eqb}
use borrow.Author.Tests.{eqb-false, ltb-false}
use Rattle.basics.specs.Fields.{place_of}
use Rattle.basics.specs.Outcomes.{refusal, if_done}
use Rattle.basics.proofs.RefusalLaws.{done, none_applies}
use Rattle.files.specs.Files.{stations, record_at}
use Rattle.places.specs.Places.{places_of, field_count}
use Rattle.showing.specs.Showing.{field_at, field_test, show_outcome, shown_field}
use Rattle.files.specs.Calls.{file_tests, number_test}
use Rattle.files.proofs.LengthLaws.{positive, or_false, whole_records}
use Rattle.places.proofs.PlaceLaws.{places_tile, place_inside, piece-there}

-- a part of the front is a part of the whole
part_of_part : (m a n : ℕ) (s : List ℕ) → a + m ≤ n → take m (drop a (take n s)) ≡ take m (drop a s)
part_of_part m zero n s h = take-take m n s (omega arith)
part_of_part m (suc a) zero s h = absurd (omega arith)
part_of_part m (suc a) (suc n) [] h = refl
part_of_part m (suc a) (suc n) (x ∷ s) h = part_of_part m a n s (omega arith)

-- A record that is wholly there, and a field that it has.
pub record Shown (file : List ℕ) (k j : ℕ) : Type 0 where
  pub whole : 219 * k + 219 ≤ length file
  pub positive : 1 ≤ j
  pub there : j ≤ length (places_of k)

module _ (file : List ℕ) (k j : ℕ) where
  -- Showing that is done has such a record and field,
  pub shown_there : done (show_outcome file k j) ≡ true → Shown file k j
  unfolding show_outcome refusal field_count
  shown_there t =
      let none = none_applies (file_tests file ++ (number_test file k ∷ field_test k j ∷ [])) refl t in
      let w = whole_records file (none.0, (none.1.0, tt)) in
      let o = or_false (eqb j 0) (ltb (field_count k) j) none.1.1.1.0 in
      let low : k ≤ stations file = ltb-false (stations file) k none.1.1.0 in
      record { whole = omega (arith, low, w.1); positive = positive j (eqb-false j 0 o.0); there = ltb-false (field_count k) j o.1 }

  -- and shows the field;
  pub shown_field_lem : done (show_outcome file k j) ≡ true → field_at file k j ≡ shown_field file k j
  unfolding shown_field if_done
  shown_field_lem t = sym (rw t)

  -- showing that is refused shows nothing.
  pub shown_nothing : done (show_outcome file k j) ≡ false → [] ≡ shown_field file k j
  unfolding shown_field if_done
  shown_nothing f = sym (rw f)

-- Where the field begins in the file, and how long it is: what is shown is what stands there.
pub shown_at : (file : List ℕ) (k j : ℕ) → Shown file k j
    → take (place_of (places_of k) j).length (drop (219 * k + ((place_of (places_of k) j).first - 1)) file) ≡ field_at file k j
unfolding field_at record_at
shown_at file k j there =
    let p = place_of (places_of k) j in
    let inside = place_inside (places_of k) j there.positive there.there (places_tile k) in
    let fits : (p.first - 1) + p.length ≤ 219 = omega (arith, inside.0, inside.1) in
    sym (part_of_part p.length (p.first - 1) 219 (drop (219 * k) file) fits ∙ ap (λ (s : List ℕ). take p.length s) (drop-drop (p.first - 1) (219 * k) file))
    ∙ piece-there (places_of k) j there.positive there.there (take 219 (drop (219 * k) file))
