-- The flaw of a record's code: code 0 has none, codes 1 to 30 one of the three of their field, and codes 31 to 39 lie between fields.
use mathlib.Core.Path.{◌≡◌, sym, ap, subst}
use mathlib.Core.Bool.{Bool}
use mathlib.Core.List.{List, ◌++◌}
use Prim.Native.Nat.{ℕ}
use Rattle.basics.specs.Rules.{first_broken}
use Rattle.fields.specs.Table.{station_table}
use Rattle.flaw_parts.specs.Parts.{flaws_from, flaw_with, flawless_all}
use Rattle.flaw_parts.proofs.SplitLaws.{table-split}
use Rattle.flaw_parts.proofs.SortedLaws.{Sorted, all_own, sorted}
use Rattle.station.specs.Places.{fields_of}
use Rattle.station.specs.Rules.{field_rules}
use Rattle.station.specs.Between.{between_rules}
use Rattle.station.specs.Codes.{value_of, station_code}
use Rattle.coordination_flaws.specs.Flaws.{record_flaw}
use Rattle.station_flaws.specs.Calls.{station_flaw}

-- the rules of the fields are that they have no flaw
code-split : (r : List ℕ) → station_code r ≡ first_broken 1 (flawless_all (flaws_from 1 station_table (fields_of r)) ++ between_rules (value_of r))
unfolding station_code field_rules
code-split r = ap (λ (bs : List Bool). first_broken 1 (bs ++ between_rules (value_of r))) (table-split 1 station_table (fields_of r))

pub station_sorted : (r : List ℕ) → Sorted 30 (station_code r) (station_flaw r)
unfolding station_flaw record_flaw
station_sorted r =
    let xs = flaws_from 1 station_table (fields_of r) in
    subst (λ (c : ℕ). Sorted 30 c (flaw_with xs c)) (sym (code-split r)) (sorted xs (between_rules (value_of r)) (all_own 1 station_table (fields_of r)))
