-- What holds of a station that breaks no rule.
use mathlib.Core.Path.{◌≡◌}
use mathlib.Core.Bool.{true}
use mathlib.Core.List.{List, ◌++◌}
use Prim.Native.Nat.{ℕ}
use Rattle.basics.specs.Rules.{All}
use Rattle.basics.proofs.RuleLaws.{all_hold, all_front, rule}
use Rattle.frequencies.specs.Frequencies.{amount_good}
use Rattle.station.specs.Places.{fields_of}
use Rattle.station.specs.Rules.{field_rules}
use Rattle.station.specs.Between.{between_rules}
use Rattle.station.specs.Codes.{value_of, station_code}
use Rattle.files.specs.Files.{record_at}
use Rattle.stations.specs.Stations.{code_at, field_of}

module _ (file : List ℕ) (k : ℕ) (good : code_at file k ≡ 0) where
  -- The rules of its fields hold,
  pub holding : All (field_rules (fields_of (record_at file k)))
  unfolding code_at station_code
  holding =
      let rules = field_rules (fields_of (record_at file k)) in
      let between = between_rules (value_of (record_at file k)) in
      all_front rules between (all_hold 0 (rules ++ between) good)

  -- the first of them, of 1A, too.
  pub amount_holds : amount_good (field_of file k 1) ≡ true
  unfolding field_rules
  amount_holds = rule (field_rules (fields_of (record_at file k))) holding 1
