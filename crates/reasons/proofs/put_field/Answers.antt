-- `reasons::put_field` meets its contract: name, columns and bytes, one behind the other.
use Rattle.printing.proofs.AppendLaws.{then}
use Rattle.reasons.proofs.ReasonLaws.{place_fine}
use Rattle.reasons.specs.Reasons.{field_text}
use native.Mathlib.Omega.{arith}
use borrow.Author.Rules.{rules}
use Rattle.reasons.proofs.put_field.Goals as goal

pub put_columns-columns_end-requires : goal.put_columns-columns_end-requires
put_columns-columns_end-requires c =
    let f = place_fine _ _ c.station_place-place.ensures c.requires.0 c.requires.1 in
    (f.0, f.1, search rules)

pub overflow_sub-first : goal.overflow_sub-first
overflow_sub-first c =
    let f = place_fine _ _ c.station_place-place.ensures c.requires.0 c.requires.1 in
    omega (arith, f.0)

pub put_quoted-requires : goal.put_quoted-requires
put_quoted-requires c =
    let f = place_fine _ _ c.station_place-place.ensures c.requires.0 c.requires.1 in
    (omega (arith, f.0, f.1, c.requires.2), c.requires.2, f.2, search rules)

pub returns : goal.returns
unfolding field_text
returns c = record {
  appended = rw (← c.station_place-place.ensures) (then c.put_text-gap.ensures (then c.put_name-name_end.ensures.appended (then c.put_columns-columns_end.ensures.appended c.put_quoted.ensures.appended)));
  upper_bound = omega (arith, c.put_text-gap.ensures.ends, c.put_name-name_end.ensures.upper_bound, c.put_columns-columns_end.ensures.upper_bound, c.put_quoted.ensures.upper_bound);
}
