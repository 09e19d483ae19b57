-- A station and its line: what is written is read back.
use Rattle.std.specs.Prelude.{Ok, Err}
use mathlib.Core.Path.{◌≡◌, refl, sym, ap, ◌∙◌}
use mathlib.Core.Bool.{Bool, true, false, not, cond}
use mathlib.Core.List.{List, [], ◌∷◌, ◌++◌}
use Prim.Native.Nat.{ℕ, ◌-◌, ◌≤◌}
use native.Mathlib.Omega.{arith}
use lib.Dec.{leb, eqb}
use lib.ListN.{length, take, drop, length-append, length-drop}
use lib.Seq.{take_at}
use borrow.Author.Tests.{eq-eqb, le-leb, leb-true}
use Rattle.columns.specs.Texts.{how_many, every}
use Rattle.fields.specs.Table.{station_table}
use Rattle.columns.specs.Sets.{among, is_name, is_text, is_narrow}
use Rattle.basics.specs.Fields.{cut, joined}
use Rattle.basics.specs.Rules.{All}
use Rattle.basics.proofs.FieldLaws.{cut-joined}
use Rattle.basics.proofs.RuleLaws.{all_hold, all_front}
use Rattle.station.specs.Places.{station_places, fields_of}
use Rattle.station.specs.Members.{values_of}
use Rattle.station.specs.Rules.{typed_rules}
use Rattle.station.specs.Between.{between_rules}
use Rattle.station.specs.Spelling.{station_pieces, spell_station}
use Rattle.station.specs.Codes.{value_of, typed_code}
use Rattle.station.specs.declared.Station.{Station}
use Rattle.station.proofs.RoundTrip.{write_keeps, read_back}
use Rattle.semicolons.specs.Fields.{station_sides, trimmed_fields, none_longer}
use Rattle.semicolons.specs.Lines.{is_semicolon, is_feed, joined_line, line_of, line_fields, last_byte, is_line, longest_line, record_of}
use Rattle.basics.specs.Outcomes.{refusal, if_done, first_refusal}
use Rattle.lists.specs.Calls.{line_outcome, station_in_line, write_line_outcome, line_length, written_line}
use Rattle.basics.specs.declared.Refusal.TheVariants as why
use Rattle.semicolons.proofs.LineLaws.{AllPlain, split-joined, semicolons, one_feed, feed_last}
use Rattle.semicolons.proofs.PieceLaws.{Pieces, pieces_wide, pieces_plain, pieces_short, pieces_back}
use Rattle.semicolons.proofs.KindPieces.{table_pieces}
use Rattle.semicolons.proofs.SizeLaws.{line-length}

-- thirty fields make a line
marked : (ps : List (List ℕ)) → AllPlain ps → length ps ≡ 30 → is_line (joined_line ps) ≡ true
unfolding is_line
marked [] h n = absurd (omega arith)
marked (p ∷ ps) h n =
    let t = joined_line (p ∷ ps) in
    let m : how_many is_semicolon t ≡ 29 = semicolons p ps h ∙ omega arith in
    rw (eq-eqb (how_many is_semicolon t) 29 m, eq-eqb (how_many is_feed t) 1 (one_feed p ps h), eq-eqb (last_byte t) 10 (feed_last p ps))

-- A typed station whose values keep their rules.
module _ (s : Station) (h : All (typed_rules s)) where
  -- each field is spelled on its padding side and without a mark
  pieces_listed : Pieces station_sides station_places (station_pieces s)
  unfolding station_pieces typed_rules among is_name is_text is_narrow every
  pieces_listed = table_pieces station_table (values_of s) refl refl h

  -- the fields that go out hold no mark,
  out_plain : AllPlain (trimmed_fields station_sides (station_pieces s))
  out_plain = pieces_plain station_sides station_places (station_pieces s) pieces_listed

  -- are found in the line again,
  fields_found : line_fields (line_of s) ≡ trimmed_fields station_sides (station_pieces s)
  unfolding line_fields line_of station_pieces
  fields_found = split-joined (trimmed_fields station_sides (station_pieces s)) out_plain

  -- and are padded to the record again
  record_found : record_of (line_of s) ≡ spell_station s
  unfolding record_of spell_station
  record_found = rw fields_found (ap joined (pieces_back station_sides station_places (station_pieces s) pieces_listed))

  -- the line has its marks
  line_marks : is_line (line_of s) ≡ true
  unfolding line_of station_pieces
  line_marks = marked (trimmed_fields station_sides (station_pieces s)) out_plain refl

  -- and no field that is too long
  line_short : none_longer station_places (line_fields (line_of s)) ≡ true
  line_short = rw fields_found (pieces_short station_sides station_places (station_pieces s) pieces_listed)

-- the rules of a station's values hold where it breaks none
values_hold : (s : Station) → typed_code s ≡ 0 → All (typed_rules s)
unfolding typed_code
values_hold s e = all_front (typed_rules s) (between_rules s) (all_hold 0 (typed_rules s ++ between_rules s) e)

-- What a station that breaks no rule is written as is a line.
pub line_is : (s : Station) → typed_code s ≡ 0 → is_line (line_of s) ≡ true
line_is s e = line_marks s (values_hold s e)

-- None of its fields is longer than its columns.
pub fields_fit : (s : Station) → typed_code s ≡ 0 → none_longer station_places (line_fields (line_of s)) ≡ true
fields_fit s e = line_short s (values_hold s e)

-- The record that a station's line says is the station's record,
pub line_record : (s : Station) → typed_code s ≡ 0 → record_of (line_of s) ≡ spell_station s
line_record s e = record_found s (values_hold s e)

-- from whose fields the line is made,
pub record_line : (s : Station) → typed_code s ≡ 0 → joined_line (trimmed_fields station_sides (fields_of (spell_station s))) ≡ line_of s
unfolding fields_of spell_station line_of
record_line s e =
    let back : cut station_places (joined (station_pieces s)) ≡ station_pieces s = cut-joined [] 1 station_places (station_pieces s) refl refl (pieces_wide station_sides station_places (station_pieces s) (pieces_listed s (values_hold s e))) in
    ap (λ (ps : List (List ℕ)). joined_line (trimmed_fields station_sides ps)) back

-- and what is the spelling of a station is that of the station which it says,
pub spelled_own : (s : Station) → typed_code s ≡ 0 → (r : List ℕ) → r ≡ spell_station s → (typed_code (value_of r) ≡ 0) × (r ≡ spell_station (value_of r)) × (value_of r ≡ s)
spelled_own s z r e =
    let v : value_of r ≡ s = ap value_of e ∙ read_back s z in
    (ap typed_code v ∙ z, e ∙ ap spell_station (sym v), v)

-- so a station that breaks no rule, written as a line, is not refused,
pub line-done : (s : Station) → typed_code s ≡ 0 → line_outcome (line_of s) ≡ Ok tt
unfolding line_outcome first_refusal
line-done s e =
    let h = values_hold s e in
    rw (line_marks s h, line_short s h, line_record s e, write_keeps s e)

-- and read back is the same station.
pub line_back : (s : Station) → typed_code s ≡ 0 → station_in_line (line_of s) ≡ s
unfolding station_in_line if_done refusal
line_back s e = rw (line-done s e, line_record s e) (read_back s e)

-- Stations with one line are equal.
pub one_line : (s t : Station) → typed_code s ≡ 0 → typed_code t ≡ 0 → line_of s ≡ line_of t → s ≡ t
one_line s t e f g = sym (line_back s e) ∙ ap station_in_line g ∙ line_back t f

-- ---- what writing leaves

-- A station that breaks no rule is written into a buffer that is as long as its line or longer,
pub write_done : (s : Station) (buffer : List ℕ) → typed_code s ≡ 0 → length (line_of s) ≤ length buffer → write_line_outcome s buffer ≡ Ok tt
unfolding write_line_outcome first_refusal
write_done s buffer e n = rw (e, le-leb (length (line_of s)) (length buffer) n)

-- and the bytes up to the length that is answered are its line,
pub write_line : (s : Station) (buffer : List ℕ) → typed_code s ≡ 0 → length (line_of s) ≤ length buffer → take (line_length s buffer) (written_line s buffer) ≡ line_of s
unfolding line_length written_line if_done refusal
write_line s buffer e n = rw (write_done s buffer e n) (take_at (line_of s) (drop (length (line_of s)) buffer) (length (line_of s)) refl)

-- so that they are read as the station.
pub write_back : (s : Station) (buffer : List ℕ) → typed_code s ≡ 0 → length (line_of s) ≤ length buffer → station_in_line (take (line_length s buffer) (written_line s buffer)) ≡ s
write_back s buffer e n = rw (write_line s buffer e n) (line_back s e)

-- The buffer keeps its length.
same_length : (line buffer : List ℕ) (k : ℕ) (z b : Bool) → leb (length line) (length buffer) ≡ b
    → length (if_done (cond (not z) (Err (why.RuleBroken k)) (cond (not b) (Err why.BufferTooShort) (Ok tt))) (line ++ drop (length line) buffer) buffer) ≡ length buffer
unfolding if_done refusal
same_length line buffer k true true e =
    omega (arith, length-append line (drop (length line) buffer), length-drop (length line) buffer, leb-true (length line) (length buffer) e)
same_length line buffer k true false e = refl
same_length line buffer k false b e = refl

pub write_length : (s : Station) (buffer : List ℕ) → length (written_line s buffer) ≡ length buffer
unfolding written_line write_line_outcome first_refusal
write_length s buffer = same_length (line_of s) buffer (typed_code s) (eqb (typed_code s) 0) (leb (length (line_of s)) (length buffer)) refl

-- The line of a station that breaks no rule has no field that is too long.
pub line_size : (s : Station) → typed_code s ≡ 0 → length (line_of s) ≤ longest_line
line_size s e = line-length (line_of s) (line_is s e) (fields_fit s e)
