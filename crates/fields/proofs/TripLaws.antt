-- A record and a table whose fields cover its columns: the record that is spelt of values that fit keeps the rules and says them again, and a record that keeps the
-- rules says values that fit.
use mathlib.Core.Path.{◌≡◌, refl, sym, ap, subst, ◌∙◌}
use mathlib.Core.Bool.{true}
use mathlib.Core.List.{List, []}
use Prim.Native.Nat.{ℕ}
use native.Mathlib.Omega.{arith}
use lib.ListN.{length}
use Rattle.basics.specs.Fields.{record_length, cut, joined, tiles_from}
use Rattle.basics.specs.Rules.{All}
use Rattle.basics.proofs.FieldLaws.{cut-joined, cut_wide}
use Rattle.fields.specs.Rows.{Row, places_of, rules_from, Values, values_from, fits_of, spelt_of}
use Rattle.fields.proofs.RowLaws.{sound, Beside, table_wide, table_kept, table_back, table_read}

module _ (t : List Row) (s : sound t ≡ true) (tiles : tiles_from 1 (places_of t) ≡ true) where
  -- the fields of a record are the pieces that it was spelt of
  pub fields_spelt : (v : Values t) → All (fits_of t v) → cut (places_of t) (joined (spelt_of t v)) ≡ spelt_of t v
  fields_spelt v h = cut-joined [] 1 (places_of t) (spelt_of t v) refl tiles (table_wide t v s h)

  -- What is written keeps the rules
  pub spelt_kept : (v : Values t) → All (fits_of t v) → Beside 1 t s (spelt_of t v) v → All (rules_from 1 t (cut (places_of t) (joined (spelt_of t v))))
  spelt_kept v h b = subst (λ (f : List (List ℕ)). All (rules_from 1 t f)) (sym (fields_spelt v h)) (table_kept 0 t (spelt_of t v) v s refl h b)

  -- and is read back,
  pub spelt_back : (v : Values t) → All (fits_of t v) → Beside 1 t s (spelt_of t v) v → values_from 1 t (cut (places_of t) (joined (spelt_of t v))) ≡ v
  spelt_back v h b = ap (values_from 1 t) (fields_spelt v h) ∙ table_back 0 t (spelt_of t v) v s refl h b

  -- and what is read can be written.
  pub read_fits : (r : List ℕ) → length r ≡ record_length → All (rules_from 1 t (cut (places_of t) r)) → All (fits_of t (values_from 1 t (cut (places_of t) r)))
  read_fits r n h = table_read 0 t (cut (places_of t) r) s (cut_wide r n 1 (places_of t) (omega arith) tiles) h
