-- How a call on a line ends, by the tests that it passes.
use Rattle.std.specs.Prelude.{Ok, Err}
use mathlib.Core.Path.{◌≡◌, refl, sym, ap, ◌∙◌}
use mathlib.Core.Bool.{true, false}
use mathlib.Core.List.{List, ◌++◌}
use Prim.Native.Nat.{ℕ, ◌≤◌, ◌<◌}
use lib.Dec.{leb, eqb}
use lib.ListN.{length, take, drop}
use lib.Seq.{length-take-le}
use borrow.Author.Tests.{eq-eqb, ne_eqb, lt-leb}
use Rattle.basics.specs.Fields.{record_length}
use Rattle.basics.specs.Outcomes.{refusal, if_done, first_refusal, Outcome}
use Rattle.station.specs.Places.{station_places}
use Rattle.station.specs.Values.{empty_station}
use Rattle.station.specs.Codes.{value_of, station_code, typed_code}
use Rattle.station.specs.Calls.{read_outcome, read_station}
use Rattle.station.specs.declared.Station.{Station}
use Rattle.semicolons.specs.Fields.{none_longer}
use Rattle.semicolons.specs.Lines.{line_of, line_fields, is_line, record_of}
use Rattle.lists.specs.Calls.{line_outcome, station_in_line, write_line_outcome, line_length, written_line}
use Rattle.basics.specs.declared.Refusal.TheVariants as why
use Rattle.lists.proofs.RoundTrip.{write_done}
use Rattle.semicolons.proofs.WidthLaws.{record_length_lem}

module _ (t : List ℕ) where
  -- What is not a line is refused,
  pub not_a_line : is_line t ≡ false → ((Err why.NotALine) ≡ line_outcome t) × (empty_station ≡ station_in_line t)
  unfolding line_outcome station_in_line first_refusal if_done refusal
  not_a_line e = (rw e, rw e)

  -- a line with a field that is too long is,
  pub long_field : is_line t ≡ true → none_longer station_places (line_fields t) ≡ false → ((Err why.FieldTooLong) ≡ line_outcome t) × (empty_station ≡ station_in_line t)
  unfolding line_outcome station_in_line first_refusal if_done refusal
  long_field e l = (rw (e, l), rw (e, l))

  -- and any other is read as its record is.
  pub record_read : is_line t ≡ true → none_longer station_places (line_fields t) ≡ true → (rec : List ℕ) → rec ≡ record_of t
      → (o : Outcome) (s : Station) → o ≡ read_outcome rec → s ≡ read_station rec → (o ≡ line_outcome t) × (s ≡ station_in_line t)
  unfolding line_outcome station_in_line read_outcome read_station first_refusal
  record_read e f rec is o s eo es =
      let size : eqb (length (record_of t)) record_length ≡ true = eq-eqb (length (record_of t)) record_length (record_length_lem t f) in
      (eo ∙ rw (is, size, e, f), es ∙ rw (is, size, e, f))

-- How writing a station into a buffer ends, and what is answered and left.
abbrev Ends : Station → List ℕ → Outcome → ℕ → List ℕ → Type 0
Ends s buffer answer n after = (answer ≡ write_line_outcome s buffer) × (n ≡ line_length s buffer) × (after ≡ written_line s buffer)

module _ (s : Station) (buffer : List ℕ) where
  -- One that breaks a rule is refused,
  pub rule_broken : (a : ℕ) → a ≡ typed_code s → (a ≡ 0 → ⊥) → Ends s buffer (Err (why.RuleBroken a)) 0 buffer
  unfolding write_line_outcome line_length written_line first_refusal if_done refusal
  rule_broken a e n =
      let z : eqb (typed_code s) 0 ≡ false = ne_eqb (typed_code s) 0 (λ q. n (e ∙ q)) in
      (rw (z, e), rw z, rw z)

  module _ (z : typed_code s ≡ 0) (line : List ℕ) (n : ℕ) (inside : n ≤ length line) (is : take n line ≡ line_of s) where
    -- The line's length is answered;
    size : n ≡ length (line_of s)
    size = sym (length-take-le n line inside) ∙ ap length is

    -- one whose line is longer than the buffer is,
    pub no_room : length buffer < n → Ends s buffer (Err why.BufferTooShort) 0 buffer
    unfolding write_line_outcome line_length written_line first_refusal if_done refusal
    no_room h =
        let long : leb (length (line_of s)) (length buffer) ≡ false = lt-leb (length (line_of s)) (length buffer) (rw (← size) h) in
        (rw (z, long), rw (z, long), rw (z, long))

    -- and any other is written.
    pub line-written : n ≤ length buffer → (after : List ℕ) → after ≡ take n line ++ drop n buffer → Ends s buffer (Ok tt) n after
    unfolding line_length written_line if_done refusal
    line-written h after e =
        let done : write_line_outcome s buffer ≡ (Ok tt) = write_done s buffer z (rw (← size) h) in
        (sym done, rw done size, e ∙ rw (done, is, size))
