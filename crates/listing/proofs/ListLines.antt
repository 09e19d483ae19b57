-- Line k of a list is what it has for station k: each of them has one line feed, the last byte. The line of a station that breaks a rule
-- is none that can be read.
use Rattle.std.specs.Prelude.{Err}
use mathlib.Core.Path.{◌≡◌, refl, sym, ap, ◌∙◌}
use mathlib.Core.Logic.{⊎_elim}
use mathlib.Core.Bool.{Bool, true, false, ◌&&◌}
use mathlib.Core.List.{List, [], ◌∷◌, ◌++◌, append_assoc, append-nil}
use Prim.Native.Nat.{ℕ, zero, suc, ◌+◌, ◌*◌, ◌≤◌, ◌<◌}
use Prim.Native.String.{String}
use native.Mathlib.Omega.{arith}
use native.Mathlib.Nat.{eq-or-lt_of_le}
use native.Mathlib.Numerals.{add-one}
use lib.Dec.{eqb}
use lib.ListN.{length}
use borrow.Author.Tests.{eqb-true}
use Rattle.columns.specs.Texts.{bytes, every, how_many}
use Rattle.columns.proofs.TextLaws.{and_split}
use Rattle.basics.specs.declared.Refusal.TheVariants as why
use Rattle.station.specs.Codes.{value_of, station_code}
use Rattle.station.proofs.RoundTrip.{read_fits}
use Rattle.files.specs.Files.{stations, record_at}
use Rattle.files.proofs.FileLaws.{record_wide}
use Rattle.basics.specs.Outcomes.{first_refusal}
use Rattle.basics.proofs.RefusalLaws.{done}
use Rattle.files.proofs.LengthLaws.{length_passed, whole_records}
use Rattle.forms.specs.Counting.{rows}
use Rattle.semicolons.specs.Lines.{is_semicolon, is_feed, last_byte, is_line, joined_line, line_of}
use Rattle.lists.specs.Calls.{line_outcome}
use Rattle.semicolons.proofs.CountLaws.{how_many_append}
use Rattle.semicolons.proofs.LineLaws.{plain, semicolons, one_feed, feed_last}
use Rattle.semicolons.proofs.PieceLaws.{every_more, every_append, solid, solid-plain, solid_digits}
use Rattle.lists.proofs.RoundTrip.{line_is}
use Rattle.printing.specs.Lines.{places, decimal, labelled, broken_line}
use Rattle.files.specs.Calls.{length_outcome}
use Rattle.listing.specs.Lists.{entry, entry_of, list_of}
use Rattle.listing.proofs.LengthLaws.{whole_list}

-- A line: one line feed, the last byte.
abbrev pub Ended : List ℕ → Type 0
Ended t = (how_many is_feed t ≡ 1) × (last_byte t ≡ 10)

-- a number behind its label has no mark
labelled_plain : (label : String) (v : ℕ) → every plain (bytes label) ≡ true → every plain (labelled label v) ≡ true
unfolding decimal every
labelled_plain label v e = every_append plain (bytes label) (decimal v) e (every_more solid plain solid-plain (decimal v) (solid_digits (places v) v [] refl))

module _ (k c : ℕ) where
  -- what stands before the end of the line of a station that breaks a rule,
  front : List ℕ
  front = labelled "station " k ++ labelled " code " c

  -- without a mark,
  front_plain : every plain front ≡ true
  unfolding front every
  front_plain = every_append plain (labelled "station " k) (labelled " code " c) (labelled_plain "station " k refl) (labelled_plain " code " c refl)

  -- is its one field
  broken_field : broken_line k c ≡ joined_line (front ∷ [])
  unfolding broken_line front
  broken_field = sym (append_assoc (labelled "station " k) (labelled " code " c) (10 ∷ []))

  -- It is a line of the list,
  pub broken_ends : Ended (broken_line k c)
  broken_ends = rw broken_field (one_feed front [] (front_plain, tt), feed_last front [])

  -- but not a station's: it has no semicolon,
  pub no_semicolon : how_many is_semicolon (broken_line k c) ≡ 0
  no_semicolon = rw broken_field (semicolons front [] (front_plain, tt))

  -- so that it cannot be read as one,
  pub broken_refused : line_outcome (broken_line k c) ≡ Err why.NotALine
  unfolding line_outcome is_line first_refusal
  broken_refused = rw no_semicolon

-- what is a line of thirty fields is one
line_ends : (t : List ℕ) → is_line t ≡ true → Ended t
unfolding is_line
line_ends t e =
    let both = and_split (eqb (how_many is_feed t) 1) (is_feed (last_byte t)) (and_split (eqb (how_many is_semicolon t) 29) (eqb (how_many is_feed t) 1 && is_feed (last_byte t)) e).1 in
    (eqb-true (how_many is_feed t) 1 both.0, eqb-true (last_byte t) 10 both.1)

-- What the list has for a record is a line,
pub entry_ends : (k : ℕ) (r : List ℕ) → length r ≡ 219 → Ended (entry k r)
unfolding entry
entry_ends k r n = by (eqb (station_code r) 0) refl where
  by : (b : Bool) → eqb (station_code r) 0 ≡ b → Ended (entry k r)
  by true z = rw z (line_ends (line_of (value_of r)) (line_is (value_of r) (read_fits r n (eqb-true (station_code r) 0 z))))
  by false z = rw z (broken_ends k (station_code r))

-- so that the first n of them are n lines,
entry_lines : (file : List ℕ) (n : ℕ) → 219 * n + 219 ≤ length file → how_many is_feed (rows (entry_of file) n) ≡ n
unfolding how_many entry_of
entry_lines file zero h = refl
entry_lines file (suc n) h =
    let rest = entry_lines file n (omega arith) in
    let last = entry_ends (suc n) (record_at file (suc n)) (record_wide file (suc n) (omega arith)) in
    omega (arith, how_many_append is_feed (rows (entry_of file) n) (entry_of file (suc n)), rest, last.0)

-- and a list that is not refused has a line for each station.
pub list_lines : (file : List ℕ) → done (length_outcome file) ≡ true → how_many is_feed (list_of file) ≡ stations file
list_lines file t =
    let whole = whole_records file (length_passed file t) in
    rw (whole_list file t) (entry_lines file (stations file) (omega (arith, whole.1)))

-- A text has so many lines before a given one.
pub record LineAt (whole : List ℕ) (i : ℕ) (line : List ℕ) : Type 0 where
  pub before : List ℕ
  pub rest : List ℕ
  pub is : whole ≡ before ++ (line ++ rest)
  pub count : how_many is_feed before ≡ i

-- one line more does not move it
line_stays : (whole more line : List ℕ) (i : ℕ) → LineAt whole i line → LineAt (whole ++ more) i line
line_stays whole more line i l =
    record {
      before = l.before;
      rest = l.rest ++ more;
      is = ap (λ (t : List ℕ). t ++ more) l.is ∙ append_assoc l.before (line ++ l.rest) more ∙ ap (λ (t : List ℕ). l.before ++ t) (append_assoc line l.rest more);
      count = l.count;
    }

entry_at : (file : List ℕ) (n i : ℕ) → 219 * n + 219 ≤ length file → i < n → LineAt (rows (entry_of file) n) i (entry_of file (i + 1))
entry_at file zero i h l = absurd (omega arith)
entry_at file (suc n) i h l =
    ⊎_elim
    (λ (e : i ≡ n).
    record {
      before = rows (entry_of file) n;
      rest = [];
      is = rw (e, add-one n, append-nil (entry_of file (suc n)));
      count = rw e (entry_lines file n (omega arith));
    })
    (λ (m : i < n). line_stays (rows (entry_of file) n) (entry_of file (suc n)) (entry_of file (i + 1)) i (entry_at file n i (omega arith) m))
    (eq-or-lt_of_le (omega arith))

-- The line behind i others is that of station i + 1.
pub station_line : (file : List ℕ) → done (length_outcome file) ≡ true → (i : ℕ) → i < stations file → LineAt (list_of file) i (entry_of file (i + 1))
station_line file t i l =
    let whole = whole_records file (length_passed file t) in
    rw (whole_list file t) (entry_at file (stations file) i (omega (arith, whole.1)) l)
