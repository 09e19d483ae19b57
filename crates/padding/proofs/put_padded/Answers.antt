-- `padding::put_padded` meets its contract: the field fills its columns, or stands where it is put into blank ones.
use mathlib.Core.Path.{sym, ap, ◌∙◌}
use Prim.Native.Nat.{ℕ, ◌+◌, ◌≤◌}
use lib.ListN.{length, length-replicate}
use borrow.Author.Tests.{eqb-true}
use Rattle.semicolons.specs.Fields.{padded_field, spaces_before}
use Rattle.padding.proofs.PutLaws.{room-behind, padded_full, put-between}
use Rattle.padding.proofs.put_padded.Goals as goal

pub returns-then-write_text : goal.returns-then-write_text
returns-then-write_text c =
    let full = sym c.write_text.ensures.value ∙ c.if-write_text.true in
    c.write_text.ensures.s_after ∙ rw full (sym (padded_full c.args.side _ c.args.field.now (sym (eqb-true (length c.args.columns.now) (length c.args.field.now) full))))

pub put_text-requires : goal.put_text-requires
put_text-requires c =
    let n = length c.args.field.now in
    let w = length c.args.columns.now in
    let same = c.write_text.auto.s in
    let room : spaces_before c.args.side w n + n ≤ w = room-behind c.args.side w n c.requires in
    let l = ap length c.write_blank.ensures ∙ length-replicate _ 32 ∙ same in
    rw (c.spaces_before-start.ensures, l, same) room

pub returns : goal.returns
returns c =
    let same = c.write_text.auto.s in
    c.put_text.ensures
    ∙ put-between c.args.side _ _ c.args.field.now _ (rw same c.requires) c.spaces_before-start.ensures c.write_blank.ensures
    ∙ ap (λ (w : ℕ). padded_field c.args.side w c.args.field.now) same
