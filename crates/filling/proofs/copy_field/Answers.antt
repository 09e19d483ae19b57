-- `filling::copy_field` meets its contract: so many bytes are copied, and none of them is a mark.
use mathlib.Core.Path.{◌≡◌, refl, sym, ◌∙◌}
use Prim.Native.Nat.{◌<◌}
use lib.ListN.{length, length-set}
use Rattle.semicolons.proofs.MarkLaws.{pass_on, mark_ends, text_ends, copied_on}
use native.Mathlib.Omega.{arith}
use borrow.Author.Rules.{rules}
use Rattle.filling.proofs.copy_field.Goals as goal

pub loop-i-init : goal.loop-i-init
loop-i-init c = ((omega arith, refl, refl), refl, omega arith, refl)

pub returns-then-is_mark : goal.returns-then-is_mark
returns-then-is_mark c =
    let i = c.loop-i.invariant in
    let inside : c.loop-i.i < length c.args.text.now = omega (arith, c.loop-i-test.true, c.min-most.ensures) in
    (i.2, i.3, i.0, λ h. mark_ends _ _ i.0 inside (sym c.is_mark.ensures ∙ c.if-is_mark.true))

pub loop-i-preserved : goal.loop-i-preserved
loop-i-preserved c =
    let i = c.loop-i.invariant in
    let inside : c.loop-i.i < length c.args.text.now = omega (arith, c.loop-i-test.true, c.min-most.ensures) in
    let room : c.loop-i.i < length c.loop-i.columns = omega (arith, i.1, c.loop-i-test.true, c.min-most.ensures) in
    (pass_on _ _ i.0 inside (sym c.is_mark.ensures ∙ c.if-is_mark.false), search rules, simp length-set (omega (arith, room)), copied_on _ _ _ inside room i.3)

pub returns : goal.returns
returns c =
    let i = c.loop-i.invariant in
    let all : c.loop-i.i ≡ c.min-most.result = omega (arith, i.1, i.2, i.0.0, c.loop-i-test.false, c.min-most.ensures) in
    (rw all at i.2, rw all at i.3, rw all at i.0, λ h. rw all at (text_ends _ _ i.0 (omega (arith, all, h, i.1, c.min-most.ensures))))
