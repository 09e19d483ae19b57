-- A line that is read as its record is has the flaw of its record, and one that is refused before has none.
use Rattle.std.specs.Prelude.{Err}
use mathlib.Core.Path.{◌≡◌, refl, ap, ◌∙◌}
use mathlib.Core.Bool.{true, false}
use mathlib.Core.List.{List}
use Prim.Native.Nat.{ℕ}
use Rattle.basics.specs.Outcomes.{code_with, Outcome}
use Rattle.basics.specs.declared.Refusal.TheVariants as why
use Rattle.flaws.specs.declared.Flaw.{Flaw}
use Rattle.flaws.specs.declared.Flaw.TheVariants as flaw
use Rattle.station.specs.Places.{station_places}
use Rattle.station.specs.Calls.{read_outcome, read_station}
use Rattle.coordination_flaws.specs.Flaws.{record_flaw}
use Rattle.station_flaws.specs.Calls.{flaw_of_reading}
use Rattle.semicolons.specs.Fields.{none_longer}
use Rattle.semicolons.specs.Lines.{line_fields, is_line, record_of}
use Rattle.lists.specs.Calls.{line_outcome}
use Rattle.lists.proofs.CallLaws.{not_a_line, long_field, record_read}
use Rattle.line_flaws.specs.Calls.{flaw_of_line}

module _ (t : List ℕ) where
  -- What is not a line,
  pub no_line : is_line t ≡ false → ((Err why.NotALine) ≡ line_outcome t) × (flaw.None ≡ flaw_of_line t)
  unfolding flaw_of_line record_flaw code_with
  no_line e = let o = (not_a_line t e).0 in (o, ap (λ (x : Outcome). record_flaw (record_of t) (code_with x)) o)

  -- a line with a field that is too long,
  pub line_long : is_line t ≡ true → none_longer station_places (line_fields t) ≡ false → ((Err why.FieldTooLong) ≡ line_outcome t) × (flaw.None ≡ flaw_of_line t)
  unfolding flaw_of_line record_flaw code_with
  line_long e l = let o = (long_field t e l).0 in (o, ap (λ (x : Outcome). record_flaw (record_of t) (code_with x)) o)

  -- and any other.
  pub line_explained : is_line t ≡ true → none_longer station_places (line_fields t) ≡ true → (rec : List ℕ) → rec ≡ record_of t
      → (o : Outcome) (x : Flaw) → o ≡ read_outcome rec → x ≡ flaw_of_reading rec → (o ≡ line_outcome t) × (x ≡ flaw_of_line t)
  unfolding flaw_of_reading flaw_of_line
  line_explained e l rec is o x eo ex =
      let read = (record_read t e l rec is (read_outcome rec) (read_station rec) refl refl).0 in
      (eo ∙ read, ex ∙ ap (λ (r : List ℕ). record_flaw r (code_with (read_outcome rec))) is ∙ ap (λ (y : Outcome). record_flaw (record_of t) (code_with y)) read)
