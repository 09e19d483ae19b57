-- A header and its record: what is written is read back, and what is read can be written.
use mathlib.Core.Path.{◌≡◌, refl, sym, ap, ◌∙◌}
use mathlib.Core.List.{List}
use mathlib.Core.Bool.{true}
use Prim.Native.Nat.{ℕ}
use lib.ListN.{length, replicate}
use Rattle.columns.specs.Sets.{is_text, among}
use Rattle.columns.specs.Texts.{head, every, skip, text_good}
use Rattle.numerals.specs.Numbers.{whole_of, amount}
use Rattle.days.specs.Dates.{date_fits, day_of}
use Rattle.serials.specs.Serials.{serial_of}
use Rattle.fields.proofs.RowLaws.{sound}
use Rattle.fields.proofs.TripLaws.{spelt_kept, spelt_back}
use Rattle.fields.proofs.TripLaws as trip
use Rattle.basics.specs.Fields.{record_length, at, place_of}
use Rattle.basics.specs.Rules.{All}
use Rattle.basics.proofs.RuleLaws.{all_hold, none-broken, never-given, rule}
use Rattle.header.specs.Table.{header_table, header_values, header_from}
use Rattle.header.specs.Places.{header_places, header_tiles, header_fields, fax, DifferIn}
use Rattle.header.specs.Rules.{header_rules, typed_header_rules}
use Rattle.header.specs.Values.{header_of}
use Rattle.header.specs.Spelling.{header_pieces, spell_header}
use Rattle.header.specs.Codes.{header_value, header_code, typed_header_code}
use Rattle.header.specs.declared.Header.{Header}

-- Each row has as many columns as its kind asks for, and spaces keep the rule of the fax.
header_sound : sound header_table ≡ true
unfolding text_good every skip is_text among
header_sound = refl

-- A header's record keeps the rules where its values keep theirs,
fields_kept : (h : Header) → All (typed_header_rules h) → All (header_rules (header_fields (spell_header h)))
unfolding header_rules header_fields spell_header header_pieces typed_header_rules
fields_kept h a = spelt_kept header_table header_sound header_tiles (header_values h) a tt

-- says the header,
said_back : (h : Header) → All (typed_header_rules h) → header_value (spell_header h) ≡ h
unfolding header_value header_of header_fields spell_header header_pieces typed_header_rules
said_back h a = ap header_from (spelt_back header_table header_sound header_tiles (header_values h) a tt)

-- and the other way round.
values_fit : (r : List ℕ) → length r ≡ record_length → All (header_rules (header_fields r)) → All (typed_header_rules (header_value r))
unfolding header_rules header_fields typed_header_rules header_value header_of
values_fit = trip.read_fits header_table header_sound header_tiles

-- A header that breaks no rule has a date.
pub date_fits_lem : (h : Header) → typed_header_code h ≡ 0 → date_fits h.date ≡ true
unfolding typed_header_code typed_header_rules
date_fits_lem h e = rule (typed_header_rules h) (all_hold 0 (typed_header_rules h) e) 10

-- A header that breaks no rule is written as a record that breaks none,
pub write_keeps : (h : Header) → typed_header_code h ≡ 0 → header_code (spell_header h) ≡ 0
unfolding typed_header_code header_code
write_keeps h e = none-broken 1 (header_rules (header_fields (spell_header h))) (fields_kept h (all_hold 0 (typed_header_rules h) e))

-- and is read back from it.
pub read_back : (h : Header) → typed_header_code h ≡ 0 → header_value (spell_header h) ≡ h
unfolding typed_header_code
read_back h e = said_back h (all_hold 0 (typed_header_rules h) e)

-- A record that breaks no rule is read as a header that breaks none,
pub read_fits : (r : List ℕ) → length r ≡ record_length → header_code r ≡ 0 → typed_header_code (header_value r) ≡ 0
unfolding typed_header_code header_code
read_fits r n e = none-broken 1 (typed_header_rules (header_value r)) (values_fit r n (all_hold 0 (header_rules (header_fields r)) e))

-- so that writing it and reading again gives it back,
pub read_again : (r : List ℕ) → length r ≡ record_length → header_code r ≡ 0 → header_value (spell_header (header_value r)) ≡ header_value r
read_again r n e = read_back (header_value r) (read_fits r n e)

-- and writing it again changes nothing.
pub write_again : (r : List ℕ) → length r ≡ record_length → header_code r ≡ 0 → spell_header (header_value (spell_header (header_value r))) ≡ spell_header (header_value r)
write_again r n e = ap spell_header (read_again r n e)

-- Writing puts spaces into the columns of the fax,
pub fax-blank : (h : Header) → typed_header_code h ≡ 0 → at (header_fields (spell_header h)) fax ≡ replicate (place_of header_places fax).length 32
unfolding header_fields spell_header header_pieces typed_header_code typed_header_rules place_of
fax-blank h e = ap (λ (f : List (List ℕ)). at f fax) (trip.fields_spelt header_table header_sound header_tiles (header_values h) (all_hold 0 (typed_header_rules h) e))

-- and reading drops them: two records that differ in their fax alone are read to the same header
pub fax_dropped : (r s : List ℕ) → DifferIn fax r s → header_value r ≡ header_value s
unfolding header_value header_of
fax_dropped r s d = λ j. record {
  number = amount (whole_of (d 1 refl j));
  content = d 2 refl j;
  letter = head (d 3 refl j);
  origin = d 4 refl j;
  mail = d 5 refl j;
  telephone = d 6 refl j;
  person = d 8 refl j;
  count = amount (whole_of (d 9 refl j));
  date = day_of (d 10 refl j);
  destination = d 11 refl j;
  serial = serial_of (d 12 refl j);
  version = d 13 refl j;
  reserve = d 14 refl j;
}

-- and rewritten to the same record.
pub fax_rewritten : (r s : List ℕ) → DifferIn fax r s → spell_header (header_value r) ≡ spell_header (header_value s)
fax_rewritten r s d = ap spell_header (fax_dropped r s d)

-- Writing refuses no header for its fax.
pub fax-never-broken : (h : Header) → typed_header_code h ≡ fax → ⊥
unfolding typed_header_code typed_header_rules
fax-never-broken h e = never-given 0 6 (typed_header_rules h) refl e

-- Headers with one spelling are equal.
pub one_spelling : (g h : Header) → typed_header_code g ≡ 0 → typed_header_code h ≡ 0 → spell_header g ≡ spell_header h → g ≡ h
one_spelling g h d e f = sym (read_back g d) ∙ ap header_value f ∙ read_back h e
