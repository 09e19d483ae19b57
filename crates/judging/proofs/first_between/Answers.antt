-- `judging::first_between` meets its contract: where a field keeps its rule, filled is not blank.
use mathlib.Core.Path.{◌≡◌, ◌∙◌}
use mathlib.Core.Bool.{true, false, not-not}
use Prim.Native.Nat.{ℕ, ◌-◌}
use lib.ListN.{get_or, take, drop}
use Rattle.columns.specs.Texts.{blank}
use Rattle.formats.specs.Tenths.{any_number}
use Rattle.fields.specs.Table.{meant_at}
use Rattle.basics.proofs.RuleLaws.{rule}
use Rattle.station.specs.Places.{fields_of}
use Rattle.station_groups.specs.Groups.{channel_fields, site_fields, emission_fields, antenna_fields, coordination_fields}
use Rattle.station.specs.Groups.{first_between}
use Rattle.station.specs.Rules.{field_rules}
use Rattle.station.specs.Values.{station_of}
use Rattle.station.specs.Codes.{value_of}
use Rattle.asked_fields.proofs.FilledLaws.{frequency_given, tenths_given}
use Rattle.asked_fields.proofs.PartLaws.{head_field}
use native.Mathlib.Omega.{arith}
use Rattle.judging.proofs.first_between.Goals as goal

pub returns : goal.returns
unfolding first_between value_of station_of fields_of field_rules channel_fields site_fields emission_fields antenna_fields coordination_fields
returns c =
    let r = c.args.rec.now in
    let holds : (k : ℕ) → get_or (field_rules (fields_of r)) (k - 1) true ≡ true = rule (field_rules (fields_of r)) c.requires.1 in
    c.first_broken.ensures
    ∙ rw (
      c.filled_where.ensures,
      c.blank_where.ensures,
      c.never_both.ensures,
      c.blank_where-2.ensures,
      c.is_blank_stepwise-silent.ensures,
      c.read_radius-radius.ensures,
      frequency_given (take 11 r) (take 1 (drop 11 r)) (holds 1),
      frequency_given (take 11 (drop 125 r)) (take 1 (drop 136 r)) (holds 24),
      tenths_given 3 1 true any_number (take 6 (drop 84 r)) (holds 15),
      tenths_given 3 1 false (meant_at 17).range (take 5 (drop 91 r)) (holds 17),
      head_field 2 13 r (omega arith),
      not-not (blank (take 11 r)),
      not-not (blank (take 11 (drop 125 r))),
    )
