-- `desk_show`: where a field stands, and that what it locates is the very piece that `show` hands out.
use mathlib.Core.Path.{◌≡◌, refl, sym, ap, ◌∙◌}
use mathlib.Core.Bool.{true, false}
use mathlib.Core.List.{List, [], ◌∷◌, ◌++◌}
use Prim.Native.Nat.{ℕ, ◌+◌, ◌-◌, ◌*◌, ◌≤◌}
use native.Mathlib.Omega.{arith}
use lib.ListN.{length}
use denote.Ref.{Bor}
use borrow.Author.Tests.{eqb-true}
use Rattle.basics.specs.Fields.{place_of}
use Rattle.basics.specs.Outcomes.{refusal, if_done}
use Rattle.basics.specs.declared.Place.{Place}
use Rattle.places.specs.Places.{places_of}
use Rattle.files.specs.Calls.{file_tests, number_test}
use Rattle.showing.specs.Showing.{field_test, show_outcome, shown_offset, shown_length}
use Rattle.basics.specs.Pieces.{StandsAt}
use Rattle.showing.specs.Promises.{FieldShown}
use Rattle.basics.proofs.RefusalLaws.{done, none_applies}
use Rattle.files.proofs.LengthLaws.{whole_records}
use Rattle.places.proofs.PlaceLaws.{places_tile, place_inside}
use Rattle.showing.proofs.ShowLaws.{shown_there}
use Rattle.showing.proofs.PieceLaws.{shown_length_lem}
use Rattle.desk_locating.specs.Promises.{FieldLocated}

-- a file of which a field can be shown is not too long
file_length : (file : List ℕ) (k j : ℕ) → done (show_outcome file k j) ≡ true → length file ≤ 65481
unfolding show_outcome refusal
file_length file k j t =
    let none = none_applies (file_tests file ++ (number_test file k ∷ field_test k j ∷ [])) refl t in
    let w = whole_records file (none.0, (none.1.0, tt)) in
    omega (arith, w.0, w.1)

module _ (file : List ℕ) (k j : ℕ) where
  -- A place that was found, of a field that can be shown: it lies inside its record, and the record inside the file.
  pub placed : {p : Place} → p ≡ place_of (places_of k) j → done (show_outcome file k j) ≡ true
      → (1 ≤ p.first) × (p.first + p.length ≤ 220) × (219 * k + 219 ≤ 65481)
  placed e t =
      let there = shown_there file k j t in
      let short = file_length file k j t in
      rw e ((place_inside (places_of k) j there.positive there.there (places_tile k)).0, (place_inside (places_of k) j there.positive there.there (places_tile k)).1, omega (arith, there.whole, short))

  -- A refusal leaves two zeros,
  pub located_not : {answer : ℕ} → answer ≡ refusal (show_outcome file k j) → done (show_outcome file k j) ≡ false → FieldLocated file k j answer 0 0
  unfolding shown_offset shown_length if_done
  located_not e f = (e, sym (rw f), sym (rw f))

  -- and where the field can be shown its place is told.
  pub located_there : {p : Place} → p ≡ place_of (places_of k) j → done (show_outcome file k j) ≡ true → FieldLocated file k j 0 (219 * k + (p.first - 1)) p.length
  unfolding shown_offset shown_length if_done
  located_there e t = (sym (eqb-true (refusal (show_outcome file k j)) 0 t), rw (e, t), rw (e, t))

-- What it locates is the piece that `show` hands out.
pub locates_shown : (file piece : Bor (List ℕ)) (k j answer offset size : ℕ) → FieldShown file k j piece → FieldLocated file.now k j answer offset size
    → StandsAt file offset piece × (length piece.now ≡ size)
locates_shown file piece k j answer offset size s l =
    (s.1 ∙ ap (λ (a : ℕ). (file.ref_ptr.0, file.ref_ptr.1 + a)) (sym l.1), ap length s.0 ∙ shown_length_lem file.now k j ∙ sym l.2)
