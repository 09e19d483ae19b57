-- A gathered line is filed, or refused, as the whole line is.
use Rattle.std.specs.Prelude.{Err}
use mathlib.Core.Path.{◌≡◌, refl, sym, ap, ◌∙◌}
use mathlib.Core.Bool.{Bool, true, false, cond}
use mathlib.Core.List.{List, [], ◌∷◌}
use Prim.Native.Nat.{ℕ, ◌≤◌, ◌<◌, min}
use native.Mathlib.Omega.{arith}
use lib.Dec.{leb, eqb}
use lib.ListN.{length, take}
use lib.Seq.{take_all}
use borrow.Author.Tests.{le-leb, lt-leb, leb-true, leb-false, eq-eqb, ne_eqb, eqb-true, eqb-false}
use Rattle.columns.specs.Texts.{how_many, sized}
use Rattle.basics.specs.Fields.{record_length, joined}
use Rattle.station.specs.Places.{station_places}
use Rattle.semicolons.specs.Fields.{none_longer}
use Rattle.semicolons.specs.Lines.{is_semicolon, is_feed, line_fields, is_line, longest_line}
use Rattle.basics.specs.Outcomes.{refusal, if_done, first_refusal, buffer_test, Outcome}
use Rattle.basics.proofs.RefusalLaws.{passes, stops}
use Rattle.lists.specs.Calls.{line_tests, line_outcome, line_filing, filed_line}
use Rattle.lists.specs.Promises.{LineFiled}
use Rattle.basics.specs.declared.Refusal.TheVariants as why
use Rattle.gathering.specs.Gathering.{room, kept_of, Holds, kept_through, held_through}
use Rattle.gathered_records.specs.Calls.{long_outcome, gathered_filing, filed_gathered}
use Rattle.gathered_records.specs.Promises.{GatheredFiled}
use Rattle.gathering.specs.declared.Gathered.{Gathered}
use Rattle.semicolons.proofs.SizeLaws.{line-length}
use Rattle.gathering.proofs.HoldLaws.{holds_all}

-- ---- how the call ends

module _ (buffer : List ℕ) (g : Gathered) (out : List ℕ) where
  -- A line that is held whole is filed,
  pub held_filed : g.held ≤ longest_line → (answer : Outcome) (after : List ℕ) → LineFiled (take g.held buffer) out answer after → GatheredFiled buffer g out answer after
  unfolding gathered_filing filed_gathered
  held_filed h answer after f = rw (le-leb g.held longest_line h) f

  -- a longer one is refused for the length of the lent bytes,
  pub long_unsized : longest_line < g.held → (length out ≡ record_length → ⊥) → GatheredFiled buffer g out (Err why.BufferLength) out
  unfolding gathered_filing filed_gathered
  long_unsized h n = rw (lt-leb g.held longest_line h, ne_eqb (length out) record_length n) (refl, refl)

  -- and else by what is kept of it.
  pub long_judged : longest_line < g.held → length out ≡ record_length → (answer : Outcome) → answer ≡ long_outcome g → GatheredFiled buffer g out answer out
  unfolding gathered_filing filed_gathered
  long_judged h n answer e = rw (lt-leb g.held longest_line h, eq-eqb (length out) record_length n) (e, refl)

-- ---- as the whole line

-- A count that stops above w is w where the whole count is.
limit_test : (most w x : ℕ) → w < most → eqb (min most x) w ≡ eqb x w
limit_test most w x h = by (eqb x w) refl where
  by : (b : Bool) → eqb x w ≡ b → eqb (min most x) w ≡ eqb x w
  by true e = eq-eqb (min most x) w (omega (arith, h, eqb-true x w e)) ∙ sym e
  by false e = ne_eqb (min most x) w (λ q. eqb-false x w e (omega (arith, h, q))) ∙ sym e

-- What is kept tells a line from what is none,
marks_kept : (t : List ℕ) → long_outcome (kept_of t) ≡ cond (is_line t) (Err why.FieldTooLong) (Err why.NotALine)
unfolding long_outcome is_line
marks_kept t = rw (limit_test 30 29 (how_many is_semicolon t) (omega arith), limit_test 2 1 (how_many is_feed t) (omega arith))

-- and a long line has a field that is too long,
long_outcome_lem : (t : List ℕ) → longest_line < length t → line_outcome t ≡ cond (is_line t) (Err why.FieldTooLong) (Err why.NotALine)
unfolding line_outcome first_refusal
long_outcome_lem t h = by (is_line t) (none_longer station_places (line_fields t)) refl refl where
  by : (a b : Bool) → is_line t ≡ a → none_longer station_places (line_fields t) ≡ b → line_outcome t ≡ cond (is_line t) (Err why.FieldTooLong) (Err why.NotALine)
  by true true e f = absurd (omega (arith, h, line-length t e f))
  by true false e f = rw (e, f)
  by false b e f = rw e

-- so that it is refused and nothing is written.
none_written : (s b : Bool) (x y : List ℕ) → if_done (cond s (cond b (Err why.FieldTooLong) (Err why.NotALine)) (Err why.BufferLength)) x y ≡ y
unfolding if_done refusal
none_written true true x y = refl
none_written true false x y = refl
none_written false b x y = refl

-- Filing a line asks the length of the lent bytes, and then what reading it asks.
filing_asks : (t out : List ℕ) → line_filing t out ≡ cond (sized record_length out) (line_outcome t) (Err why.BufferLength)
unfolding line_filing line_outcome
filing_asks t out = by (eqb (length out) record_length) refl where
  by : (b : Bool) → eqb (length out) record_length ≡ b → first_refusal (buffer_test out ∷ line_tests t) ≡ cond b (first_refusal (line_tests t)) (Err why.BufferLength)
  by true e = passes (Err why.BufferLength) (line_tests t) (rw e)
  by false e = stops (Err why.BufferLength) (line_tests t) (rw e)

-- What is gathered of a line is filed as the whole line is, whatever its length, and leaves the same.
module _ (buffer : List ℕ) (g : Gathered) (t out : List ℕ) (h : Holds buffer g t) where
  abbrev Same : Type 0
  Same = (gathered_filing buffer g out ≡ line_filing t out) × (filed_gathered buffer g out ≡ filed_line t out)

  short_same : length t ≤ longest_line → Same
  unfolding gathered_filing filed_gathered
  short_same n =
      let held : g.held ≡ length t = ap (λ (x : Gathered). x.held) h.2 ∙ omega (arith, n) in
      let whole : take (length t) buffer ≡ t = h.1 ∙ take_all room t (omega (arith, n)) in
      rw (held, le-leb (length t) longest_line n, whole) (refl, refl)

  long_same : longest_line < length t → Same
  unfolding gathered_filing filed_gathered filed_line
  long_same n =
      let held : longest_line < g.held = rw h.2 (omega (arith, n)) in
      let ends : long_outcome g ≡ cond (is_line t) (Err why.FieldTooLong) (Err why.NotALine) = ap long_outcome h.2 ∙ marks_kept t in
      rw (lt-leb g.held longest_line held, ends, filing_asks t out, long_outcome_lem t n) (refl, sym (none_written (sized record_length out) (is_line t) _ out))

  pub as_whole : (gathered_filing buffer g out ≡ line_filing t out) × (filed_gathered buffer g out ≡ filed_line t out)
  as_whole = by (leb (length t) longest_line) refl where
    by : (b : Bool) → leb (length t) longest_line ≡ b → Same
    by true e = short_same (leb-true (length t) longest_line e)
    by false e = long_same (leb-false (length t) longest_line e)

  -- So the call's answer, and what it leaves, are those of the whole line.
  pub filed_as_whole : (answer : Outcome) (after : List ℕ) → GatheredFiled buffer g out answer after → LineFiled t out answer after
  filed_as_whole answer after f = (f.0 ∙ as_whole.0, f.1 ∙ as_whole.1)

-- A line that is gathered in any parts is filed as the line that they make.
pub any_parts : (ps : List (List ℕ)) (buffer out : List ℕ) (answer : Outcome) (after : List ℕ) → length buffer ≡ room
    → GatheredFiled (held_through ps buffer (kept_of [])) (kept_through ps buffer (kept_of [])) out answer after → LineFiled (joined ps) out answer after
any_parts ps buffer out answer after n =
    filed_as_whole (held_through ps buffer (kept_of [])) (kept_through ps buffer (kept_of [])) (joined ps) out (holds_all ps buffer n) answer after
