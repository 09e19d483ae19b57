-- A station and its record: what is written is read back, and what is read can be written.
use mathlib.Core.Path.{◌≡◌, refl, sym, ap, ◌∙◌}
use mathlib.Core.List.{List, ◌++◌}
use mathlib.Core.Bool.{true}
use Prim.Native.Nat.{ℕ, ◌-◌}
use lib.ListN.{length, get_or}
use Rattle.fields.specs.Table.{station_table}
use Rattle.fields.proofs.RowLaws.{Beside}
use Rattle.fields.proofs.TripLaws.{spelt_kept, spelt_back}
use Rattle.fields.proofs.TripLaws as trip
use Rattle.basics.specs.Fields.{record_length}
use Rattle.basics.specs.Rules.{All}
use Rattle.basics.proofs.RuleLaws.{all_hold, none-broken, rule, all_append, all_front, all_back}
use Rattle.station.specs.Members.{values_of, station_from}
use Rattle.station.specs.Places.{station_tiles, fields_of}
use Rattle.station.specs.Rules.{field_rules, typed_rules}
use Rattle.station.specs.Between.{between_rules}
use Rattle.station.specs.Values.{station_of}
use Rattle.station.specs.Spelling.{station_pieces, spell_station}
use Rattle.station.specs.Codes.{value_of, station_code, typed_code}
use Rattle.station.specs.declared.Station.{Station}

-- A typed station whose values keep their rules.
module _ (s : Station) (h : All (typed_rules s)) where
  -- the rule of code k
  holds : (k : ℕ) → get_or (typed_rules s) (k - 1) true ≡ true
  holds = rule (typed_rules s) h

  -- a frequency's amount and its unit stand beside one another
  beside : Beside 1 station_table refl (station_pieces s) (values_of s)
  unfolding station_pieces typed_rules
  beside = (refl, ((refl, holds 1), (refl, ((refl, holds 24), tt))))

  -- its record keeps the rules of fields,
  fields_kept : All (field_rules (fields_of (spell_station s)))
  unfolding field_rules fields_of spell_station station_pieces typed_rules
  fields_kept = spelt_kept station_table refl station_tiles (values_of s) h beside

  -- and says the station
  said_back : value_of (spell_station s) ≡ s
  unfolding value_of station_of fields_of spell_station station_pieces typed_rules
  said_back = ap station_from (spelt_back station_table refl station_tiles (values_of s) h beside)

-- A station that breaks no rule is written as a record that breaks none,
pub write_keeps : (s : Station) → typed_code s ≡ 0 → station_code (spell_station s) ≡ 0
unfolding typed_code station_code
write_keeps s e =
    let a : All (typed_rules s ++ between_rules s) = all_hold 0 (typed_rules s ++ between_rules s) e in
    let h : All (typed_rules s) = all_front (typed_rules s) (between_rules s) a in
    let f = field_rules (fields_of (spell_station s)) in
    rw (said_back s h) (none-broken 1 (f ++ between_rules s) (all_append f (between_rules s) (fields_kept s h) (all_back (typed_rules s) (between_rules s) a)))

-- and is read back from it.
pub read_back : (s : Station) → typed_code s ≡ 0 → value_of (spell_station s) ≡ s
unfolding typed_code
read_back s e = said_back s (all_front (typed_rules s) (between_rules s) (all_hold 0 (typed_rules s ++ between_rules s) e))

-- A record's fields that keep their rules are read as values that keep theirs,
values_fit : (r : List ℕ) → length r ≡ record_length → All (field_rules (fields_of r)) → All (typed_rules (value_of r))
unfolding field_rules fields_of typed_rules value_of station_of
values_fit = trip.read_fits station_table refl station_tiles

-- so that a record that breaks no rule is read as a station that breaks none,
pub read_fits : (r : List ℕ) → length r ≡ record_length → station_code r ≡ 0 → typed_code (value_of r) ≡ 0
unfolding typed_code station_code
read_fits r n e =
    let f = field_rules (fields_of r) in
    let b = between_rules (value_of r) in
    let a : All (f ++ b) = all_hold 0 (f ++ b) e in
    none-broken 1 (typed_rules (value_of r) ++ b) (all_append (typed_rules (value_of r)) b (values_fit r n (all_front f b a)) (all_back f b a))

-- so that writing it and reading again gives it back,
pub read_again : (r : List ℕ) → length r ≡ record_length → station_code r ≡ 0 → value_of (spell_station (value_of r)) ≡ value_of r
read_again r n e = read_back (value_of r) (read_fits r n e)

-- and writing it again changes nothing.
pub write_again : (r : List ℕ) → length r ≡ record_length → station_code r ≡ 0 → spell_station (value_of (spell_station (value_of r))) ≡ spell_station (value_of r)
write_again r n e = ap spell_station (read_again r n e)

-- Stations with one spelling are equal.
pub one_spelling : (s t : Station) → typed_code s ≡ 0 → typed_code t ≡ 0 → spell_station s ≡ spell_station t → s ≡ t
one_spelling s t e f g = sym (read_back s e) ∙ ap value_of g ∙ read_back t f
