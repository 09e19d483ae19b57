-- The promises of showing leave one answer.
use Rattle.basics.specs.Outcomes.{Outcome}
use mathlib.Core.Path.{◌≡◌, sym, ap, ◌∙◌}
use mathlib.Core.Bool.{true}
use mathlib.Core.List.{List}
use Prim.Native.Nat.{ℕ, ◌+◌, ◌-◌, ◌*◌, ◌≤◌}
use native.Mathlib.Omega.{arith}
use denote.Ref.{Bor}
use Rattle.basics.specs.Fields.{place_of}
use Rattle.basics.proofs.RefusalLaws.{done}
use Rattle.places.specs.Places.{places_of}
use Rattle.places.proofs.PlaceLaws.{not_header}
use Rattle.showing.specs.Showing.{show_outcome, shown_offset}
use Rattle.showing.specs.Promises.{ShowJudged, FieldShown}
use Rattle.showing.proofs.PieceLaws.{shown_begins}

-- Two answers of `show_outcome` to one question are equal,
pub one_show_outcome : (file : List ℕ) (k j : ℕ) (a b : Outcome) → ShowJudged file k j a → ShowJudged file k j b → a ≡ b
one_show_outcome file k j a b p q = p ∙ sym q

-- and of `show`: the same bytes at the same place.
pub one_show : (file : Bor (List ℕ)) (k j : ℕ) (a b : Bor (List ℕ)) → FieldShown file k j a → FieldShown file k j b → (a.ref_ptr ≡ b.ref_ptr) × (a.now ≡ b.now)
one_show file k j a b p q = (p.1 ∙ sym q.1, p.0 ∙ sym q.0)

-- A piece that is shown for a station is shown for no other, whatever bytes the other has in that field.
pub no_other_station : (file : Bor (List ℕ)) (k m j : ℕ) (a : Bor (List ℕ)) → 1 ≤ k → 1 ≤ m → done (show_outcome file.now k j) ≡ true → done (show_outcome file.now m j) ≡ true
    → FieldShown file k j a → FieldShown file m j a → k ≡ m
no_other_station file k m j a lk lm tk tm p q =
    let column : ℕ → ℕ = λ (n : ℕ). (place_of (places_of n) j).first - 1 in
    let one : column k ≡ column m = rw (not_header k (λ (e : k ≡ 0). omega (arith, e, lk)), not_header m (λ (e : m ≡ 0). omega (arith, e, lm))) in
    let together : file.ref_ptr.1 + shown_offset file.now k j ≡ file.ref_ptr.1 + shown_offset file.now m j = ap (λ (w : ℕ × ℕ). w.1) (sym p.1 ∙ q.1) in
    let atk : 219 * k + column k ≡ shown_offset file.now k j = shown_begins file.now k j tk in
    let atm : 219 * m + column m ≡ shown_offset file.now m j = shown_begins file.now m j tm in
    omega (arith, one, together, atk, atm)
