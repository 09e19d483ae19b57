-- The flaw of a typed station's code: code 0 has none, codes 1 to 30 one of the three of their value, and codes 31 to 39 lie between fields.
use mathlib.Core.Path.{◌≡◌, sym, ap, subst}
use mathlib.Core.Bool.{Bool}
use mathlib.Core.List.{List, ◌++◌}
use Prim.Native.Nat.{ℕ}
use Rattle.basics.specs.Rules.{first_broken}
use Rattle.fields.specs.Table.{station_table}
use Rattle.flaw_parts.specs.Parts.{typed_flaws, flaw_with, flawless_all}
use Rattle.flaw_parts.proofs.SplitLaws.{typed_table_split}
use Rattle.flaw_parts.proofs.SortedLaws.{Sorted, all_typed, sorted}
use Rattle.station.specs.Members.{values_of}
use Rattle.station.specs.Rules.{typed_rules}
use Rattle.station.specs.Between.{between_rules}
use Rattle.station.specs.Codes.{typed_code}
use Rattle.station.specs.declared.Station.{Station}
use Rattle.typed_flaws.specs.Calls.{flaw_typed, typed_flaw}

-- the rules of the values are that they have no flaw
code-split : (s : Station) → typed_code s ≡ first_broken 1 (flawless_all (typed_flaws station_table (values_of s)) ++ between_rules s)
unfolding typed_code typed_rules
code-split s = ap (λ (bs : List Bool). first_broken 1 (bs ++ between_rules s)) (typed_table_split station_table (values_of s))

pub typed_sorted : (s : Station) → Sorted 30 (typed_code s) (typed_flaw s)
unfolding typed_flaw flaw_typed
typed_sorted s =
    let xs = typed_flaws station_table (values_of s) in
    subst (λ (c : ℕ). Sorted 30 c (flaw_with xs c)) (sym (code-split s)) (sorted xs (between_rules s) (all_typed station_table (values_of s)))
