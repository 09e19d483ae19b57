-- A record whose numbers are written anew in their own columns, and all else stays: it is the spelling of its station.
use mathlib.Core.Path.{◌≡◌, refl, sym, ap, ◌∙◌}
use mathlib.Core.Bool.{true, false}
use mathlib.Core.List.{List, [], ◌∷◌, ◌++◌, append_assoc, append-nil}
use Prim.Native.Nat.{ℕ, zero, suc, ◌+◌, ◌-◌, ◌≤◌}
use native.Mathlib.Omega.{arith}
use lib.ListN.{length, get_or, take, drop, length-append, length-drop, take-append-drop}
use lib.Seq.{drop_at, drop-drop, take-take, length-take-le}
use borrow.Rule.Slice.PartMut.{put_mid}
use Rattle.columns.specs.Texts.{head}
use Rattle.numerals.specs.Numbers.{whole_of, amount, spell_whole}
use Rattle.formats.specs.Tenths.{tenths_of, spell_tenths}
use Rattle.days.specs.Dates.{day_of, spell_day}
use Rattle.frequencies.specs.Frequencies.{frequency_of, spell_amount, spell_unit}
use Rattle.distances.specs.Distances.{radius_of, spell_radius, ground_of, spell_ground, height_of, spell_height}
use Rattle.positions.specs.Positions.{position_good, position_of, spell_position}
use Rattle.basics.specs.Fields.{joined}
use Rattle.basics.specs.Rules.{All}
use Rattle.station.specs.Places.{fields_of}
use Rattle.station.specs.Rules.{field_rules}
use Rattle.station.specs.Values.{station_of}
use Rattle.station.specs.Between.{between_rules}
use Rattle.station.specs.Spelling.{station_pieces, spell_station}
use Rattle.station.specs.Codes.{value_of, station_code}
use Rattle.basics.proofs.RuleLaws.{all_hold, all_front, rule}
use Rattle.basics.proofs.WriteLaws.{PiecesWritten, nothing_yet, part_wide, then_one, then_some, all_written}
use Rattle.own_spelling.specs.OwnSpelling.{decimal_anew, location_anew, beam_anew}
use Rattle.own_spelling.proofs.StayLaws.{byte_stays, day_stays, unit_stays, amount_anew}

-- ---- fields written anew by what they held, or left

module _ {s now : List ℕ} {pieces : List (List ℕ)} {a : ℕ} (w : PiecesWritten s pieces a now) (n : ℕ) (inside : a + n ≤ length s) where
  -- what is not written yet stands
  untouched : take n (drop a now) ≡ take n (drop a s)
  untouched = ap (λ (l : List ℕ). take n (drop a l)) w.is ∙ ap (take n) (drop_at (joined pieces) (drop a s) a w.wide)

  -- and so does what is behind it
  beyond : (k : ℕ) → drop (a + k) now ≡ drop (a + k) s
  beyond k = sym (drop-drop k a now) ∙ ap (λ (l : List ℕ). drop k (drop a l)) w.is ∙ ap (drop k) (drop_at (joined pieces) (drop a s) a w.wide) ∙ drop-drop k a s

  -- the next columns hold pieces of what they held,
  pub then_some_anew : (f : List ℕ → List (List ℕ)) {p : List ℕ} → p ≡ joined (f (take n (drop a now))) → length p ≡ length (take n (drop a now)) → PiecesWritten s (pieces ++ f (take n (drop a s))) (a + n) (put_mid a n now p)
  then_some_anew f e kept = then_some w n inside (f (take n (drop a s))) (e ∙ ap (λ (l : List ℕ). joined (f l)) untouched) kept

  -- or one piece,
  pub then_anew : (f : List ℕ → List ℕ) {p : List ℕ} → p ≡ f (take n (drop a now)) → length p ≡ length (take n (drop a now)) → PiecesWritten s (pieces ++ (f (take n (drop a s)) ∷ [])) (a + n) (put_mid a n now p)
  then_anew f e kept = then_one w n inside (f (take n (drop a s))) (e ∙ ap f untouched) kept

  -- or a whole number of as many digits as there are columns,
  pub then-whole : {p : List ℕ} → p ≡ spell_whole (length (take n (drop a now))) (amount (whole_of (take n (drop a now)))) → length p ≡ length (take n (drop a now))
      → PiecesWritten s (pieces ++ (spell_whole n (amount (whole_of (take n (drop a s)))) ∷ [])) (a + n) (put_mid a n now p)
  then-whole e kept =
      then_anew (λ q. spell_whole n (amount (whole_of q))) (e ∙ ap (λ (k : ℕ). spell_whole k (amount (whole_of (take n (drop a now))))) (part_wide w n inside)) kept

  -- or stay, where the piece is what they hold.
  pub then_stays : (q : List ℕ) → q ≡ take n (drop a s) → PiecesWritten s (pieces ++ (q ∷ [])) (a + n) now
  then_stays q e =
      let room : n ≤ length (drop a s) = simp length-drop (omega arith) in
      let part : joined (q ∷ []) ≡ take n (drop a s) = append-nil q ∙ e in
      record {
        wide = ap length (joined_one pieces q) ∙ length-append (joined pieces) q ∙ (λ k. w.wide k + (ap length e ∙ length-take-le n (drop a s) room) k);
        is = w.is
            ∙ ap (λ (l : List ℕ). joined pieces ++ l) (sym (take-append-drop n (drop a s)) ∙ (λ k. sym e k ++ drop-drop n a s k))
            ∙ sym (append_assoc (joined pieces) q (drop (a + n) s)) ∙ ap (λ (l : List ℕ). l ++ drop (a + n) s) (sym (joined_one pieces q));
      } where
        joined_one : (ps : List (List ℕ)) (q : List ℕ) → joined (ps ++ (q ∷ [])) ≡ joined ps ++ q
        joined_one [] q = append-nil q
        joined_one (p ∷ ps) q = ap (λ (l : List ℕ). p ++ l) (joined_one ps q) ∙ sym (append_assoc p (joined ps) q)

-- a part of a part
part_in : (n a m : ℕ) (l : List ℕ) → a + n ≤ m → take n (drop a (take m l)) ≡ take n (drop a l)
part_in n zero m l h = take-take n m l (omega arith)
part_in n (suc a) zero l h = absurd (omega arith)
part_in n (suc a) (suc m) [] h = refl
part_in n (suc a) (suc m) (c ∷ l) h = part_in n a m l (omega arith)

pub inner : (n a m b : ℕ) (r : List ℕ) → a + n ≤ m → take n (drop a (take m (drop b r))) ≡ take n (drop (b + a) r)
inner n a m b r h = part_in n a m (drop b r) h ∙ ap (take n) (drop-drop a b r)

-- ---- the thirty fields

-- a record that breaks no rule keeps those of its fields
pub fields_hold : (r : List ℕ) → station_code r ≡ 0 → All (field_rules (fields_of r))
unfolding station_code
fields_hold r e =
    let f = field_rules (fields_of r) in
    let b = between_rules (value_of r) in
    all_front f b (all_hold 0 (f ++ b) e)

-- the pieces of two runs of columns, by the record's own columns
location_pieces : (r : List ℕ) → location_anew (take 24 (drop 51 r))
    ≡ spell_position (position_of (take 15 (drop 51 r))) ∷ spell_radius (radius_of (take 5 (drop 66 r))) ∷ spell_height (height_of (take 4 (drop 71 r))) ∷ []
unfolding location_anew
location_pieces r = rw (inner 15 0 24 51 r (omega arith), inner 5 15 24 51 r (omega arith), inner 4 20 24 51 r (omega arith))

beam_pieces : (r : List ℕ) → beam_anew (take 27 (drop 84 r))
    ≡ decimal_anew 3 true (take 6 (drop 84 r))
    ∷ take 1 (drop 90 r)
    ∷ decimal_anew 3 false (take 5 (drop 91 r))
    ∷ decimal_anew 2 true (take 5 (drop 96 r))
    ∷ take 2 (drop 101 r)
    ∷ decimal_anew 2 false (take 4 (drop 103 r))
    ∷ spell_ground (ground_of (take 4 (drop 107 r)))
    ∷ []
unfolding beam_anew
beam_pieces r =
    rw (
      inner 6 0 27 84 r (omega arith),
      inner 1 6 27 84 r (omega arith),
      inner 5 7 27 84 r (omega arith),
      inner 5 12 27 84 r (omega arith),
      inner 2 17 27 84 r (omega arith),
      inner 4 19 27 84 r (omega arith),
      inner 4 23 27 84 r (omega arith),
    )

module _ (r : List ℕ) (n : length r ≡ 219) (h : All (field_rules (fields_of r))) where
  -- the rule of code k
  holds : (k : ℕ) → get_or (field_rules (fields_of r)) (k - 1) true ≡ true
  holds = rule (field_rules (fields_of r)) h

  -- eight columns of a date
  eight : (a : ℕ) → a + 8 ≤ 219 → length (take 8 (drop a r)) ≡ 8
  eight a l = length-take-le 8 (drop a r) (simp length-drop (omega arith))

  -- the units of 1A and 1Y, four bytes and three dates stay
  unit_1a : spell_unit (frequency_of (take 11 r) (take 1 (drop 11 r))) ≡ take 1 (drop 11 r)
  unfolding field_rules fields_of
  unit_1a = unit_stays (take 11 r) (take 1 (drop 11 r)) (holds 1) (holds 2)

  unit_1y : spell_unit (frequency_of (take 11 (drop 125 r)) (take 1 (drop 136 r))) ≡ take 1 (drop 136 r)
  unfolding field_rules fields_of
  unit_1y = unit_stays (take 11 (drop 125 r)) (take 1 (drop 136 r)) (holds 24) (holds 25)

  category : head (take 1 (drop 12 r)) ∷ [] ≡ take 1 (drop 12 r)
  unfolding field_rules fields_of
  category = byte_stays _ (take 1 (drop 12 r)) (holds 3)

  carrier : head (take 1 (drop 19 r)) ∷ [] ≡ take 1 (drop 19 r)
  unfolding field_rules fields_of
  carrier = byte_stays _ (take 1 (drop 19 r)) (holds 7)

  basis : head (take 1 (drop 90 r)) ∷ [] ≡ take 1 (drop 90 r)
  unfolding field_rules fields_of
  basis = byte_stays _ (take 1 (drop 90 r)) (holds 16)

  status : head (take 1 (drop 187 r)) ∷ [] ≡ take 1 (drop 187 r)
  unfolding field_rules fields_of
  status = byte_stays _ (take 1 (drop 187 r)) (holds 27)

  started : spell_day (day_of (take 8 (drop 20 r))) ≡ take 8 (drop 20 r)
  unfolding field_rules fields_of
  started = day_stays (take 8 (drop 20 r)) (eight 20 (omega arith)) (holds 8)

  requested : spell_day (day_of (take 8 (drop 188 r))) ≡ take 8 (drop 188 r)
  unfolding field_rules fields_of
  requested = day_stays (take 8 (drop 188 r)) (eight 188 (omega arith)) (holds 28)

  coordinated : spell_day (day_of (take 8 (drop 196 r))) ≡ take 8 (drop 196 r)
  unfolding field_rules fields_of
  coordinated = day_stays (take 8 (drop 196 r)) (eight 196 (omega arith)) (holds 29)

  -- 4C keeps its rule still, when 1A is written
  pub location_ready : (p₁ : List ℕ) → length p₁ ≡ length (take 11 r)
      → let s₁ = put_mid 0 11 r p₁ in (length (take 24 (drop 51 s₁)) ≡ 24) × (position_good (take 15 (take 24 (drop 51 s₁))) ≡ true)
  unfolding field_rules fields_of
  location_ready p₁ l₁ =
      let w = then_one (nothing_yet r) 11 (omega arith) p₁ refl l₁ in
      let there = beyond w 0 (omega arith) 40 in
      let room : 24 ≤ length (drop 51 r) = simp length-drop (omega arith) in
      rw there (length-take-le 24 (drop 51 r) room, rw (inner 15 0 24 51 r (omega arith)) (holds 11))

  -- So a record whose four runs of numbers are written anew is the spelling of its station.
  pub numbers-written : (p₁ p₂ p₃ p₄ : List ℕ)
      → let s₁ = put_mid 0 11 r p₁ in let s₂ = put_mid 51 24 s₁ p₂ in let s₃ = put_mid 84 27 s₂ p₃ in
      p₁ ≡ spell_tenths 5 5 false (tenths_of 5 5 false (take 11 r)) → length p₁ ≡ length (take 11 r)
      → p₂ ≡ joined (location_anew (take 24 (drop 51 s₁))) → length p₂ ≡ length (take 24 (drop 51 s₁))
      → p₃ ≡ joined (beam_anew (take 27 (drop 84 s₂))) → length p₃ ≡ length (take 27 (drop 84 s₂))
      → p₄ ≡ spell_tenths 5 5 false (tenths_of 5 5 false (take 11 (drop 125 s₃))) → length p₄ ≡ length (take 11 (drop 125 s₃))
      → put_mid 125 11 s₃ p₄ ≡ spell_station (value_of r)
  unfolding spell_station station_pieces value_of station_of fields_of
  numbers-written p₁ p₂ p₃ p₄ e₁ l₁ e₂ l₂ e₃ l₃ e₄ l₄ =
      let amount : List ℕ → List ℕ → List ℕ = λ q p. spell_amount (frequency_of p q) in
      let w1 = then_anew (nothing_yet r) 11 (omega arith) (amount (take 1 (drop 11 r))) (e₁ ∙ sym (amount_anew (take 11 r) (take 1 (drop 11 r)))) l₁ in
      let w2 = then_stays w1 1 (omega arith) _ unit_1a in
      let w3 = then_stays w2 1 (omega arith) _ category in
      let w4 = then_stays w3 2 (omega arith) (take 2 (drop 13 r)) refl in
      let w5 = then_stays w4 2 (omega arith) (take 2 (drop 15 r)) refl in
      let w6 = then_stays w5 2 (omega arith) (take 2 (drop 17 r)) refl in
      let w7 = then_stays w6 1 (omega arith) _ carrier in
      let w8 = then_stays w7 8 (omega arith) _ started in
      let w9 = then_stays w8 20 (omega arith) (take 20 (drop 28 r)) refl in
      let w10 = then_stays w9 3 (omega arith) (take 3 (drop 48 r)) refl in
      let w13 = then_some_anew w10 24 (omega arith) location_anew e₂ l₂ in
      let w14 = then_stays w13 9 (omega arith) (take 9 (drop 75 r)) refl in
      let w21 = then_some_anew w14 27 (omega arith) beam_anew e₃ l₃ in
      let w22 = then_stays w21 7 (omega arith) (take 7 (drop 111 r)) refl in
      let w23 = then_stays w22 7 (omega arith) (take 7 (drop 118 r)) refl in
      let w24 = then_anew w23 11 (omega arith) (amount (take 1 (drop 136 r))) (e₄ ∙ sym (amount_anew _ (take 1 (drop 136 r)))) l₄ in
      let w25 = then_stays w24 1 (omega arith) _ unit_1y in
      let w26 = then_stays w25 50 (omega arith) (take 50 (drop 137 r)) refl in
      let w27 = then_stays w26 1 (omega arith) _ status in
      let w28 = then_stays w27 8 (omega arith) _ requested in
      let w29 = then_stays w28 8 (omega arith) _ coordinated in
      let w30 = then_stays w29 15 (omega arith) (take 15 (drop 204 r)) refl in
      all_written w30 n ∙ rw (location_pieces r, beam_pieces r, ← basis)
