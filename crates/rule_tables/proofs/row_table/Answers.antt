-- `rule_tables::row_table` meets its contract: that the rows are the rules between fields is one computed test.
use mathlib.Core.Path.{◌≡◌, refl}
use mathlib.Core.Bool.{true, false}
use Prim.Native.Nat.{ℕ, ◌-◌}
use lib.ListN.{get_or, take, drop}
use Rattle.formats.specs.Tenths.{any_number}
use Rattle.distances.specs.Distances.{radius_of}
use Rattle.basics.specs.Rules.{first_broken}
use Rattle.basics.proofs.RuleLaws.{rule}
use Rattle.fields.specs.Table.{meant_at}
use Rattle.station.specs.Places.{fields_of}
use Rattle.station.specs.Rules.{field_rules}
use Rattle.station_groups.specs.Asked.{round_antenna}
use Rattle.station.specs.Between.{between_rules}
use Rattle.station.specs.Values.{station_of}
use Rattle.station.specs.Codes.{value_of}
use Rattle.asked_fields.proofs.FilledLaws.{frequency_given, tenths_given, height_given}
use Rattle.facts.specs.Facts.{fact_of}
use Rattle.walking.specs.Walks.{first_row}
use Rattle.rule_tables.specs.Told.{RowsTell}
use Rattle.rule_tables.proofs.row_table.Goals as goal

pub returns : goal.returns
unfolding RowsTell first_broken first_row fact_of between_rules value_of station_of fields_of field_rules round_antenna radius_of
returns c = λ r. (
  refl,
  refl,
  λ h.
      let holds : (k : ℕ) → get_or (field_rules (fields_of r)) (k - 1) true ≡ true = rule (field_rules (fields_of r)) h in
      rw (
        frequency_given (take 11 r) (take 1 (drop 11 r)) (holds 1),
        frequency_given (take 11 (drop 125 r)) (take 1 (drop 136 r)) (holds 24),
        tenths_given 3 1 true any_number (take 6 (drop 84 r)) (holds 15),
        tenths_given 3 1 false (meant_at 17).range (take 5 (drop 91 r)) (holds 17),
        tenths_given 2 1 true (meant_at 18).range (take 5 (drop 96 r)) (holds 18),
        tenths_given 2 1 false any_number (take 4 (drop 103 r)) (holds 20),
        height_given (take 4 (drop 71 r)) (holds 13),
      ),
)
