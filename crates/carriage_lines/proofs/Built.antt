-- A carriage's line that is filed is the station that building gives on the values of its fields.
use Rattle.std.specs.Prelude.{Ok}
use mathlib.Core.Path.{◌≡◌, refl, sym, ap, ◌∙◌}
use mathlib.Core.Bool.{Bool, true, false, not, ◌&&◌}
use mathlib.Core.List.{List, [], ◌∷◌, ◌++◌}
use Prim.Native.Nat.{ℕ, zero, suc, ◌<◌}
use native.Mathlib.Omega.{arith}
use lib.Dec.{eqb}
use lib.ListN.{length, get_or, take, drop, length-append}
use borrow.Author.Tests.{eq-eqb, eqb-true, not-false}
use Rattle.frequencies.specs.declared.Frequency.{Frequency}
use Rattle.columns.specs.Texts.{bytes, same}
use Rattle.columns.proofs.TextLaws.{and_split}
use Rattle.basics.specs.Fields.{record_length, at, cut, joined}
use Rattle.basics.proofs.FieldLaws.{Wide, cut-joined, cut_wide}
use Rattle.basics.specs.Outcomes.{refusal, if_done, first_refusal}
use Rattle.basics.proofs.RefusalLaws.{done, if_done_lem, NoneApplies, none_applies}
use Rattle.station.specs.Places.{station_places, station_tiles, fields_of}
use Rattle.station.specs.Values.{empty_station, station_of}
use Rattle.station.specs.Codes.{value_of, station_code, typed_code}
use Rattle.station.specs.Spelling.{spell_station}
use Rattle.station.specs.declared.Station.{Station}
use Rattle.station.proofs.RoundTrip.{read_fits}
use Rattle.vehicles.specs.Digits.{number_digits, is_number, last_right}
use Rattle.vehicles.specs.Names.{name_of}
use Rattle.vehicles.proofs.NameLaws.{number-length}
use Rattle.semicolons.specs.Fields.{none_longer}
use Rattle.semicolons.specs.declared.Side.TheVariants as side
use Rattle.semicolons.proofs.WidthLaws.{padded_length, columns_of}
use Rattle.carriage.specs.Building.{are_defaults, carriage_of, build_tests, build_outcome, built_station}
use Rattle.carriage_lines.specs.Lines.{field_behind, carriage_number, own_fields, own_places, with_field, carriage_pieces, carriage_record, is_mobile, own_pieces}
use Rattle.carriage_lines.specs.Calls.{given_tests, filing_tests, carriage_filing, filed_carriage}
use Rattle.carriage_lines.proofs.PutLaws.{own_room, name_wide}
use Rattle.std.specs.Prelude.{Option, ℤ}

-- What the carriage's own fields say: the values that their record has.
module _ (t d : List ℕ) where
  abbrev pub transmit_of : Option Frequency
  transmit_of = (station_of (carriage_pieces t d)).channel.transmit

  abbrev pub power_of : Option ℤ
  power_of = (station_of (carriage_pieces t d)).emission.power

  abbrev pub reference_of : List ℕ
  reference_of = at (own_pieces t) 4

  -- The fields say the defaults' station with the carriage's name and its own values.
  said : station_of (carriage_pieces t d) ≡ carriage_of (carriage_number t) transmit_of power_of reference_of (value_of d)
  unfolding carriage_pieces carriage_of value_of station_of fields_of
  said = refl

-- Fields with another one of the same width are as wide as before.
with_wide : (i : ℕ) (qs : List (ℕ × ℕ)) (ps : List (List ℕ)) → Wide qs ps → (p : List ℕ) → i < length qs → length p ≡ (get_or qs i (0, 0)).1 → Wide qs (take i ps ++ (p ∷ drop (suc i) ps))
with_wide i [] [] w p h e = absurd (omega (arith, h))
with_wide i [] (x ∷ ps) w p h e = absurd w
with_wide i (q ∷ qs) [] w p h e = absurd w
with_wide zero (q ∷ qs) (x ∷ ps) w p h e = (e, w.1)
with_wide (suc i) (q ∷ qs) (x ∷ ps) w p h e = (w.0, with_wide i qs ps w.1 p (omega (arith, h)) e)

-- Pieces as wide as their places fill them.
joined_wide : (qs : List (ℕ × ℕ)) (ps : List (List ℕ)) → Wide qs ps → length (joined ps) ≡ columns_of qs
joined_wide [] [] w = refl
joined_wide [] (p ∷ ps) w = absurd w
joined_wide (q ∷ qs) [] w = absurd w
joined_wide (q ∷ qs) (p ∷ ps) w = omega (arith, length-append p (joined ps), w.0, joined_wide qs ps w.1)

module _ (t d : List ℕ) (n : length d ≡ record_length) (f : none_longer own_places (own_fields t) ≡ true) (number : length (carriage_number t) ≡ number_digits) where
  wide : Wide station_places (carriage_pieces t d)
  unfolding carriage_pieces fields_of
  wide =
      let room = own_room t f in
      let f1 : List (List ℕ) = with_field 1 (at (own_pieces t) 1) (fields_of d) in
      let f2 : List (List ℕ) = with_field 2 (at (own_pieces t) 2) f1 in
      let f3 : List (List ℕ) = with_field 9 (name_of (carriage_number t)) f2 in
      let f4 : List (List ℕ) = with_field 15 (at (own_pieces t) 3) f3 in
      let w0 : Wide station_places (fields_of d) = cut_wide d n 1 station_places (omega arith) station_tiles in
      let w1 = with_wide 0 station_places (fields_of d) w0 (at (own_pieces t) 1) (omega arith) (padded_length side.Left 11 (field_behind 1 t) room.0) in
      let w2 = with_wide 1 station_places f1 w1 (at (own_pieces t) 2) (omega arith) (padded_length side.Right 1 (field_behind 2 t) room.1) in
      let w3 = with_wide 8 station_places f2 w2 (name_of (carriage_number t)) (omega arith) (name_wide (carriage_number t) number) in
      let w4 = with_wide 14 station_places f3 w3 (at (own_pieces t) 3) (omega arith) (padded_length side.Left 6 (field_behind 3 t) room.2) in
      with_wide 29 station_places f4 w4 (at (own_pieces t) 4) (omega arith) (padded_length side.Right 15 (field_behind 4 t) room.3)

  -- The record's fields are those that it was made of,
  fields_are : fields_of (carriage_record t d) ≡ carriage_pieces t d
  unfolding carriage_record fields_of
  fields_are = cut-joined [] 1 station_places (carriage_pieces t d) refl station_tiles wide

  -- so that it says the carriage's station,
  pub made_value : value_of (carriage_record t d) ≡ carriage_of (carriage_number t) (transmit_of t d) (power_of t d) (reference_of t d) (value_of d)
  unfolding value_of
  made_value = ap station_of fields_are ∙ said t d

  -- and it has 219 bytes.
  pub made_length : length (carriage_record t d) ≡ record_length
  unfolding carriage_record
  made_length = joined_wide station_places (carriage_pieces t d) wide

-- A line that is not refused,
module _ (t d out : List ℕ) (e : carriage_filing t d out ≡ Ok tt) where
  passed : NoneApplies (filing_tests t d out)
  unfolding carriage_filing refusal
  passed = none_applies (filing_tests t d out) refl (ap done e)

  given : length d ≡ record_length
  given = eqb-true (length d) record_length (not-false _ passed.1.0)

  abbrev own : Station
  own = carriage_of (carriage_number t) (transmit_of t d) (power_of t d) (reference_of t d) (value_of d)

  value : value_of (carriage_record t d) ≡ own
  value = made_value t d given (not-false _ passed.1.1.1.0) (number-length (carriage_number t) (not-false _ passed.1.1.1.1.0))

  -- the defaults are those of a building that is not refused
  are_defaults_lem : are_defaults (value_of d) ≡ true
  unfolding are_defaults is_mobile value_of station_of fields_of
  are_defaults_lem =
      let mobile = and_split (eqb (station_code d) 0) (same (bytes "ML") (at (fields_of d) 4)) (not-false _ passed.1.1.1.1.1.1.0) in
      let fits : eqb (typed_code (value_of d)) 0 ≡ true = eq-eqb (typed_code (value_of d)) 0 (read_fits d given (eqb-true (station_code d) 0 mobile.0)) in
      λ k. fits k && mobile.1 k

  own_fits : typed_code own ≡ 0
  own_fits = ap typed_code (sym value) ∙ read_fits (carriage_record t d) (made_length t d given (not-false _ passed.1.1.1.0) (number-length (carriage_number t) (not-false _ passed.1.1.1.1.0))) (eqb-true (station_code (carriage_record t d)) 0 (not-false _ passed.1.1.1.1.1.1.1.0))

  -- builds, from its number, the values of its fields and the defaults' station,
  pub filed_builds : build_outcome (carriage_number t) (transmit_of t d) (power_of t d) (reference_of t d) (value_of d) ≡ Ok tt
  unfolding build_outcome first_refusal
  filed_builds =
      let digits : is_number (carriage_number t) ≡ true = not-false _ passed.1.1.1.1.0 in
      let last : last_right (carriage_number t) ≡ true = not-false _ passed.1.1.1.1.1.0 in
      rw (digits, last, are_defaults_lem, own_fits)

  -- the station whose one spelling is filed.
  pub filed_built : filed_carriage t d out ≡ spell_station (built_station (carriage_number t) (transmit_of t d) (power_of t d) (reference_of t d) (value_of d))
  unfolding filed_carriage built_station refusal
  filed_built =
      if_done_lem (carriage_filing t d out) (spell_station (value_of (carriage_record t d))) out (ap done e)
      ∙ ap spell_station (value ∙ sym (if_done_lem (build_outcome (carriage_number t) (transmit_of t d) (power_of t d) (reference_of t d) (value_of d)) own empty_station (ap done filed_builds)))
