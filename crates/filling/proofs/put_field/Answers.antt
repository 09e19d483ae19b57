-- `filling::put_field` meets its contract: the field is padded, or fills its columns, or is too long.
use mathlib.Core.Path.{sym, ap, ◌∙◌}
use Prim.Native.Nat.{ℕ}
use native.Mathlib.Omega.{arith}
use lib.Arith.{lt_of_le-ne}
use lib.ListN.{take}
use lib.Seq.{length-take-le}
use Rattle.semicolons.specs.Fields.{padded_field}
use Rattle.filling.proofs.FillLaws.{full_copied}
use Rattle.semicolons.proofs.MarkLaws.{pass_on, mark_ends, text_ends, longer}
use borrow.Author.Rules.{rules}
use Rattle.filling.proofs.put_field.Goals as goal

pub slice_bounds-put_padded-end : goal.slice_bounds-put_padded-end
slice_bounds-put_padded-end c = sym (length-take-le _ _ c.copy_field-n.ensures.2.0)

pub put_padded-requires : goal.put_padded-requires
put_padded-requires c =
    let size = length-take-le c.copy_field-n.result c.args.text.now c.copy_field-n.ensures.2.0 in
    omega (arith, size, c.copy_field-n.ensures.0)

pub returns-then-n-columns : goal.returns-then-n-columns
returns-then-n-columns c =
    let same = c.copy_field-n.auto.columns in
    let short = c.if-n-columns.true in (
      λ h. (c.copy_field-n.ensures.3 short, c.put_padded.ensures ∙ ap (λ (w : ℕ). padded_field c.args.side w (take c.copy_field-n.result c.args.text.now)) same),
      λ h. absurd (omega (arith, h, short, same)),
    )

pub returns-then-n-text : goal.returns-then-n-text
returns-then-n-text c =
    let same = c.copy_field-n.auto.columns in
    let all = c.if-n-text.true in (
      λ h. (text_ends _ _ c.copy_field-n.ensures.2 (omega (arith, all)), full_copied c.args.side c.args.text.now _ _ _ same c.if-n-columns.false c.copy_field-n.ensures.0 c.copy_field-n.ensures.2.0 c.copy_field-n.ensures.1),
      λ h. absurd (omega (arith, h, c.copy_field-n.ensures.0, same)),
    )

pub bounds-text-n : goal.bounds-text-n
bounds-text-n c =
    let inside = c.copy_field-n.ensures.2.0 in
    search rules

pub returns-then-is_mark : goal.returns-then-is_mark
returns-then-is_mark c =
    let same = c.copy_field-n.auto.columns in (
      λ h. (mark_ends _ _ c.copy_field-n.ensures.2 (lt_of_le-ne c.copy_field-n.ensures.2.0 c.if-n-text.false) (sym c.is_mark.ensures ∙ c.if-is_mark.true), full_copied c.args.side c.args.text.now _ _ _ same c.if-n-columns.false c.copy_field-n.ensures.0 c.copy_field-n.ensures.2.0 c.copy_field-n.ensures.1),
      λ h. absurd (omega (arith, h, c.copy_field-n.ensures.0, same)),
    )

pub overflow_add-result : goal.overflow_add-result
overflow_add-result c =
    let inside = c.copy_field-n.ensures.2.0 in
    search rules

pub returns : goal.returns
returns c =
    let same = c.copy_field-n.auto.columns in
    let full = c.if-n-columns.false in
    let on = longer _ _ (pass_on _ _ c.copy_field-n.ensures.2 (lt_of_le-ne c.copy_field-n.ensures.2.0 c.if-n-text.false) (sym c.is_mark.ensures ∙ c.if-is_mark.false)) in
    (λ h. absurd (omega (arith, h, full, same)), λ h. omega (arith, on, c.copy_field-n.ensures.0, same))
