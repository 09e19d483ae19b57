-- A list brings in the stations that went out: out and in again, each record that breaks no rule comes back in its one
-- spelling, in its order, and one that breaks a rule does not.
use mathlib.Core.Path.{◌≡◌, refl, ap, ◌∙◌}
use mathlib.Core.Bool.{Bool, true, false}
use mathlib.Core.List.{List, [], ◌∷◌, append-nil}
use Prim.Native.Nat.{ℕ, zero, suc, ◌+◌, ◌*◌, ◌≤◌}
use native.Mathlib.Omega.{arith}
use lib.Dec.{eqb}
use lib.ListN.{length}
use borrow.Author.Tests.{eqb-true}
use Rattle.columns.specs.Texts.{how_many}
use Rattle.station.specs.Codes.{value_of, station_code}
use Rattle.station.proofs.RoundTrip.{read_fits}
use Rattle.files.specs.Files.{stations, record_at}
use Rattle.files.proofs.FileLaws.{record_wide}
use Rattle.basics.proofs.RefusalLaws.{done}
use Rattle.files.proofs.LengthLaws.{length_passed, whole_records}
use Rattle.forms.specs.Counting.{rows}
use Rattle.semicolons.specs.Lines.{last_byte, lines_from, lines_of}
use Rattle.basics.specs.Outcomes.{refusal, if_done}
use Rattle.lists.specs.Whole.{brought_in, records_of}
use Rattle.semicolons.proofs.LineLaws.{last_append}
use Rattle.lists.proofs.WholeLaws.{lines_append, one_of_lines, records_append, brought_back}
use Rattle.printing.specs.Lines.{broken_line}
use Rattle.files.specs.Calls.{length_outcome}
use Rattle.listing.specs.Lists.{entry, entry_of, list_of, returned}
use Rattle.listing.proofs.LengthLaws.{whole_list}
use Rattle.listing.proofs.ListLines.{Ended, broken_refused, entry_ends}

-- a line that is ended has a byte
ended_some : (t : List ℕ) → Ended t → 1 ≤ length t
unfolding how_many
ended_some [] e = absurd (omega (arith, e.0))
ended_some (c ∷ t) e = omega arith

-- a line that is ended brings in what it says, alone
alone : (t : List ℕ) → Ended t → records_of (lines_of t) ≡ brought_in t
alone t e = ap records_of (one_of_lines t e.0 e.1) ∙ append-nil (brought_in t)

-- the line of a station that breaks a rule brings in nothing
nothing_back : (k c : ℕ) → brought_in (broken_line k c) ≡ []
unfolding brought_in if_done refusal
nothing_back k c = rw (broken_refused k c)

module _ (file : List ℕ) where
  -- what the list has for a station brings it back
  entry_back : (k : ℕ) → length (record_at file k) ≡ 219 → brought_in (entry_of file k) ≡ returned file k
  unfolding entry_of entry returned
  entry_back k n = by (eqb (station_code (record_at file k)) 0) refl where
    by : (b : Bool) → eqb (station_code (record_at file k)) 0 ≡ b → brought_in (entry_of file k) ≡ returned file k
    by true z = rw z (brought_back (value_of (record_at file k)) (read_fits (record_at file k) n (eqb-true (station_code (record_at file k)) 0 z)))
    by false z = rw z (nothing_back k (station_code (record_at file k)))

  -- station k of enough bytes has its line
  ended : (k : ℕ) → 219 * k + 219 ≤ length file → Ended (entry_of file k)
  unfolding entry_of
  ended k h = entry_ends k (record_at file k) (record_wide file k h)

  -- the first n of them end with a line feed
  rows_end : (n : ℕ) → 219 * n + 219 ≤ length file → 1 ≤ length (rows (entry_of file) n) → last_byte (rows (entry_of file) n) ≡ 10
  rows_end zero h l = absurd (omega arith)
  rows_end (suc n) h l =
      let e = ended (suc n) h in
      last_append (rows (entry_of file) n) (entry_of file (suc n)) (ended_some (entry_of file (suc n)) e) ∙ e.1

  -- and bring back the first n stations
  rows_back : (n : ℕ) → 219 * n + 219 ≤ length file → records_of (lines_of (rows (entry_of file) n)) ≡ rows (returned file) n
  unfolding lines_from
  rows_back zero h = refl
  rows_back (suc n) h =
      let before = rows (entry_of file) n in
      let last = entry_of file (suc n) in
      ap records_of (lines_append before last (rows_end n (omega arith)))
      ∙ records_append (lines_of before) (lines_of last)
      ∙ rw (rows_back n (omega arith), alone last (ended (suc n) h), entry_back (suc n) (record_wide file (suc n) h))

  -- The list of a filing brings back its stations.
  pub list_back : done (length_outcome file) ≡ true → records_of (lines_of (list_of file)) ≡ rows (returned file) (stations file)
  list_back t =
      let whole = whole_records file (length_passed file t) in
      rw (whole_list file t) (rows_back (stations file) (omega (arith, whole.1)))
