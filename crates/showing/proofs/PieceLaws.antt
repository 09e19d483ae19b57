-- Where the field stands that is shown, and how long it is.
use mathlib.Core.Path.{◌≡◌, refl, sym, ap, ◌∙◌}
use mathlib.Core.Bool.{Bool, true, false}
use mathlib.Core.List.{List}
use Prim.Native.Nat.{ℕ, ◌+◌, ◌-◌, ◌*◌}
use native.Mathlib.Omega.{arith}
use lib.ListN.{length, take, drop, length-drop}
use lib.Seq.{length-take-le}
use denote.Ref.{Bor}
use Rattle.basics.specs.Fields.{place_of}
use Rattle.basics.specs.Outcomes.{if_done}
use Rattle.basics.specs.Pieces.{StandsAt}
use Rattle.basics.specs.declared.Place.{Place}
use Rattle.basics.proofs.RefusalLaws.{done}
use Rattle.basics.proofs.StandLaws.{piece_of_piece}
use Rattle.places.specs.Places.{places_of}
use Rattle.places.proofs.PlaceLaws.{places_tile, place_inside}
use Rattle.files.specs.Files.{record_offset}
use Rattle.files.proofs.PieceLaws.{offset_there}
use Rattle.showing.specs.Showing.{show_outcome, shown_field, shown_offset, shown_length}
use Rattle.showing.proofs.ShowLaws.{shown_there, shown_at}

module _ (file : List ℕ) (k j : ℕ) where
  -- What is shown begins at the field's column of its record,
  pub shown_begins : done (show_outcome file k j) ≡ true → 219 * k + ((place_of (places_of k) j).first - 1) ≡ shown_offset file k j
  unfolding shown_offset if_done
  shown_begins t = sym (rw t)

  pub offset_shown : {p : Place} → p ≡ place_of (places_of k) j → done (show_outcome file k j) ≡ true → record_offset file k + (p.first - 1) ≡ shown_offset file k j
  offset_shown {p} e t =
      let there = shown_there file k j t in
      rw (← offset_there file k (omega (arith, there.whole)), e) (shown_begins t)

  -- and on a refusal at the front.
  pub offset_refused : done (show_outcome file k j) ≡ false → 0 ≡ shown_offset file k j
  unfolding shown_offset if_done
  offset_refused f = sym (rw f)

-- The field's piece of the record's piece of the file is where showing says.
pub field_stands : (file rec piece : Bor (List ℕ)) (k j : ℕ) {p : Place} → p ≡ place_of (places_of k) j → done (show_outcome file.now k j) ≡ true
    → StandsAt file (record_offset file.now k) rec → StandsAt rec (p.first - 1) piece → StandsAt file (shown_offset file.now k j) piece
field_stands file rec piece k j {p} e t r f =
    piece_of_piece file rec piece (record_offset file.now k) (p.first - 1) r f
    ∙ ap (λ (a : ℕ). (file.ref_ptr.0, file.ref_ptr.1 + a)) (offset_shown file.now k j e t)

-- As many bytes as the length says, from the offset on, are the field; on a refusal there are none.
pub located : (file : List ℕ) (k j : ℕ) → take (shown_length file k j) (drop (shown_offset file k j) file) ≡ shown_field file k j
unfolding shown_length shown_offset shown_field if_done
located file k j = by_case (done (show_outcome file k j)) refl
  where
    by_case : (b : Bool) → done (show_outcome file k j) ≡ b → take (shown_length file k j) (drop (shown_offset file k j) file) ≡ shown_field file k j
    by_case true e = rw e (shown_at file k j (shown_there file k j e))
    by_case false e = rw e

-- So it is as long as the table says.
pub shown_length_lem : (file : List ℕ) (k j : ℕ) → length (shown_field file k j) ≡ shown_length file k j
unfolding shown_length shown_field if_done
shown_length_lem file k j = by_case (done (show_outcome file k j)) refl
  where
    by_case : (b : Bool) → done (show_outcome file k j) ≡ b → length (shown_field file k j) ≡ shown_length file k j
    by_case true e =
        let there = shown_there file k j e in
        let inside = place_inside (places_of k) j there.positive there.there (places_tile k) in
        rw e (ap length (sym (shown_at file k j there)) ∙ length-take-le _ _ (rw length-drop (omega (arith, inside.0, inside.1, there.whole))))
    by_case false e = rw e
