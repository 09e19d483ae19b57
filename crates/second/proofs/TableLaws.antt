-- Two tables of numbers that say what the tables of specs/ say judge a record as those do.
use Rattle.std.specs.Prelude.{Ok, Err}
use mathlib.Core.Path.{◌≡◌, refl, sym, ap, ◌∙◌}
use mathlib.Core.Bool.{Bool, true, false, cond, not}
use mathlib.Core.List.{List, [], ◌∷◌, ◌++◌}
use Prim.Native.Nat.{ℕ, suc, ◌+◌, ◌≤◌, ◌<◌}
use native.Mathlib.Omega.{arith}
use lib.Dec.{eqb}
use lib.ListN.{length}
use borrow.Author.Tests.{eq-eqb, eqb-true, eqb-false}
use Rattle.basics.specs.Rules.{All, first_broken}
use Rattle.basics.specs.Outcomes.{code_with, first_refusal}
use Rattle.basics.specs.declared.Refusal.TheVariants as why
use Rattle.basics.proofs.RuleLaws.{all_hold, to_next, from_first}
use Rattle.fields.specs.Table.{station_table}
use Rattle.flaw_parts.specs.Parts.{flaws_from, flaw_with, flawless_all}
use Rattle.flaws.specs.declared.Flaw.{Flaw}
use Rattle.flaw_parts.proofs.SplitLaws.{table-split}
use Rattle.station.specs.Places.{fields_of}
use Rattle.station.specs.Rules.{field_rules}
use Rattle.station.specs.Between.{between_rules}
use Rattle.station.specs.Codes.{value_of, station_code}
use Rattle.station.specs.Calls.{read_outcome}
use Rattle.coordination_flaws.specs.Flaws.{record_flaw}
use Rattle.station_flaws.specs.Calls.{station_flaw, flaw_of_reading}
use Rattle.walking.specs.Walks.{first_row, flaws_by, code_by}
use Rattle.walking.specs.Promises.{Walked}
use Rattle.walking.specs.declared.Found.{Found}
use Rattle.rule_tables.specs.Told.{field_places, unit_kept, EntriesTell, RowsTell}
use Rattle.second.proofs.UnitLaws.{all_told, two_units}
use Rattle.second.proofs.PlaceLaws.{length-kept, row_kept}

module _ (entries rows : List (List ℕ)) (r : List ℕ) (told : EntriesTell entries) (bound : RowsTell rows) where
  -- by the places of the station's fields
  by_places : (low high : ℕ) → first_row entries r low high rows ≡ first_row field_places r low high rows
  unfolding EntriesTell
  by_places low high = sym (row_kept entries r low high rows) ∙ ap (λ (es : List (List ℕ)). first_row es r low high rows) told.0

  -- the two rows of a unit are kept
  kept_so : (k : ℕ) → eqb (first_row field_places r k k rows) 0 ≡ unit_kept (fields_of r) k → eqb (first_row entries r k k rows) 0 ≡ unit_kept (fields_of r) k
  kept_so k e = ap (λ (n : ℕ). eqb n 0) (by_places k k) ∙ e

  same-flaws : flaws_by entries r rows ≡ flaws_from 1 station_table (fields_of r)
  unfolding EntriesTell RowsTell
  same-flaws =
      told.1 r rows
      ∙ two_units (λ k. eqb (first_row entries r k k rows) 0) (unit_kept (fields_of r)) (fields_of r) (kept_so 2 (bound r).0) (kept_so 25 (bound r).1)
      ∙ all_told 0 station_table (fields_of r)

  thirty : length entries ≡ 30
  unfolding EntriesTell
  thirty = sym (length-kept entries) ∙ ap length told.0

  between : All (field_rules (fields_of r)) → first_row entries r (length entries + 1) 255 rows ≡ first_broken 31 (between_rules (value_of r))
  unfolding RowsTell
  between h = ap (λ (n : ℕ). first_row entries r (n + 1) 255 rows) thirty ∙ by_places 31 255 ∙ (bound r).2 h

  same_rules : flawless_all (flaws_by entries r rows) ≡ field_rules (fields_of r)
  unfolding field_rules
  same_rules = ap flawless_all same-flaws ∙ sym (table-split 1 station_table (fields_of r))

  -- the code of the fields, and then of the rules between them
  by_code : (b : Bool) → eqb (first_broken 1 (field_rules (fields_of r))) 0 ≡ b
      → cond b (first_row entries r (length entries + 1) 255 rows) (first_broken 1 (field_rules (fields_of r))) ≡ first_broken 1 (field_rules (fields_of r) ++ between_rules (value_of r))
  unfolding field_rules
  by_code true e =
      let z = eqb-true (first_broken 1 (field_rules (fields_of r))) 0 e in
      between (all_hold 0 (field_rules (fields_of r)) z) ∙ sym (to_next 0 (field_rules (fields_of r)) (between_rules (value_of r)) refl z)
  by_code false e = from_first 0 (field_rules (fields_of r)) (between_rules (value_of r)) refl (eqb-false (first_broken 1 (field_rules (fields_of r))) 0 e)

  same_code : code_by entries r rows ≡ station_code r
  unfolding station_code
  same_code =
      ap (λ (rules : List Bool). cond (eqb (first_broken 1 rules) 0) (first_row entries r (length entries + 1) 255 rows) (first_broken 1 rules)) same_rules
      ∙ by_code (eqb (first_broken 1 (field_rules (fields_of r))) 0) refl

  same_found : {code : ℕ} {x : Flaw} → (code ≡ code_by entries r rows) × (x ≡ flaw_with (flaws_by entries r rows) code) → (code ≡ station_code r) × (x ≡ station_flaw r)
  unfolding station_flaw record_flaw
  same_found {code} {x} h = let e = h.0 ∙ same_code in (e, h.1 ∙ ap (λ (xs : List Flaw). flaw_with xs code) same-flaws ∙ ap (flaw_with (flaws_from 1 station_table (fields_of r))) e)

-- So what a walk finds is the first judge's code and flaw.
pub by_tables : (entries rows : List (List ℕ)) (r : List ℕ) (found : Found) → Walked entries rows r found → EntriesTell entries → RowsTell rows → (found.code ≡ station_code r) × (found.flaw ≡ station_flaw r)
unfolding Walked
by_tables entries rows r found h told bound = same_found entries rows r told bound h

-- A code is at most the number of rules.
first_bound : (k : ℕ) (rules : List Bool) → first_broken (suc k) rules ≤ k + length rules
unfolding first_broken
first_bound k [] = omega arith
first_bound k (true ∷ rules) = let h = first_bound (suc k) rules in omega (arith, h)
first_bound k (false ∷ rules) = omega arith

pub code_bound : (r : List ℕ) → station_code r < 256
unfolding station_code field_rules between_rules
code_bound r = let h : station_code r ≤ 39 = first_bound 0 (field_rules (fields_of r) ++ between_rules (value_of r)) in omega (arith, h)

-- The flaw of a record that has its length is that of its code.
read_code : (r : List ℕ) → length r ≡ 219 → code_with (read_outcome r) ≡ station_code r
unfolding read_outcome first_refusal code_with
read_code r e = rw (eq-eqb (length r) 219 e) (by (eqb (station_code r) 0) refl) where
  by : (b : Bool) → eqb (station_code r) 0 ≡ b → code_with (cond (not b) (Err (why.RuleBroken (station_code r))) (Ok tt)) ≡ station_code r
  by true z = sym (eqb-true (station_code r) 0 z)
  by false z = refl

pub read_flaw : (r : List ℕ) → length r ≡ 219 → station_flaw r ≡ flaw_of_reading r
unfolding station_flaw flaw_of_reading
read_flaw r e = ap (record_flaw r) (sym (read_code r e))
