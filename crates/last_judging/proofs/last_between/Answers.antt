-- `last_judging::last_between` meets its contract: where a field keeps its rule, filled is not blank.
use mathlib.Core.Path.{◌≡◌, ◌∙◌}
use mathlib.Core.Bool.{true, false, not-not}
use Prim.Native.Nat.{ℕ, ◌-◌}
use lib.ListN.{get_or, take, drop}
use Rattle.columns.specs.Texts.{blank}
use Rattle.formats.specs.Tenths.{any_number}
use Rattle.fields.specs.Table.{meant_at}
use Rattle.basics.proofs.RuleLaws.{rule}
use Rattle.station.specs.Places.{fields_of}
use Rattle.station_groups.specs.Groups.{channel_fields, site_fields, emission_fields, antenna_fields, coordination_fields}
use Rattle.station.specs.Groups.{last_between}
use Rattle.station.specs.Rules.{field_rules}
use Rattle.station.specs.Values.{station_of}
use Rattle.station.specs.Codes.{value_of}
use Rattle.asked_fields.proofs.FilledLaws.{frequency_given, tenths_given, height_given}
use Rattle.asked_fields.proofs.PartLaws.{head_field}
use native.Mathlib.Omega.{arith}
use Rattle.last_judging.proofs.last_between.Goals as goal

pub returns : goal.returns
unfolding last_between value_of station_of fields_of field_rules channel_fields site_fields emission_fields antenna_fields coordination_fields
returns c =
    let r = c.args.rec.now in
    let azimuth = take 5 (drop 91 r) in
    let elevation = take 5 (drop 96 r) in
    let gain = take 4 (drop 103 r) in
    let receive = take 11 (drop 125 r) in
    let holds : (k : ℕ) → get_or (field_rules (fields_of r)) (k - 1) true ≡ true = rule (field_rules (fields_of r)) c.requires.1 in
    c.first_broken.ensures
    ∙ rw (c.round_where.ensures, c.round_where-2.ensures, c.blank_where.ensures, c.filled_where.ensures, c.never_both.ensures)
    (rw (c.is_blank_stepwise.ensures, c.is_blank_stepwise-2.ensures, c.equal-repeater.ensures)
    (rw (c.is_filled.ensures, c.is_repeater_name.ensures)
    (rw (tenths_given 3 1 false (meant_at 17).range azimuth (holds 17), tenths_given 2 1 true (meant_at 18).range elevation (holds 18), tenths_given 2 1 false any_number gain (holds 20))
    (rw (height_given (take 4 (drop 71 r)) (holds 13), frequency_given receive (take 1 (drop 136 r)) (holds 24), head_field 2 13 r (omega arith))
    (rw (not-not (blank azimuth), not-not (blank elevation), not-not (blank gain)))))))
