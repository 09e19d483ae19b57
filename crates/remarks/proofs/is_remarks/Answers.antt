-- `remarks::is_remarks` meets its contract: each return rewrites with the tests on its way.
use mathlib.Core.Path.{◌≡◌}
use mathlib.Core.Bool.{◌&&◌}
use mathlib.Core.List.{List}
use Prim.Native.Nat.{ℕ}
use lib.ListN.{length, take, drop, length-drop}
use lib.Seq.{take_all, drop-drop}
use borrow.Author.Tests.{eq-eqb, ne_eqb}
use Rattle.remarks.specs.Remarks.{remarks_good}
use Rattle.columns.proofs.AnswerLaws.{told, passed, failed}
use Rattle.columns.specs.Sets.{is_text}
use Rattle.columns.specs.Texts.{every}
use Rattle.columns.proofs.TextLaws.{every-parts}
use native.Mathlib.Omega.{arith}
use Rattle.remarks.proofs.is_remarks.Goals as goal

-- the free text in its two parts
free_text : (s : List ℕ) → length s ≡ 50 → (every is_text (take 32 (drop 13 s)) && every is_text (take 16 (drop 34 s))) ≡ every is_text (drop 13 s)
free_text s h = rw (take_all 16 (drop 34 s) (simp length-drop (omega arith)), ← drop-drop 21 13 s) (every-parts is_text 32 21 (drop 13 s) (omega arith))

pub returns-then-s-ne50 : goal.returns-then-s-ne50
unfolding remarks_good
returns-then-s-ne50 c = rw (ne_eqb _ _ c.if-s-ne50.true)

pub returns-then-is_blank : goal.returns-then-is_blank
unfolding remarks_good
returns-then-is_blank c = rw (eq-eqb _ _ c.if-s-ne50.false, told c.is_blank.ensures c.if-is_blank.true)

pub returns-then-not-is_generation : goal.returns-then-not-is_generation
unfolding remarks_good
returns-then-not-is_generation c =
    rw (eq-eqb _ _ c.if-s-ne50.false, told c.is_blank.ensures c.if-is_blank.false, failed c.is_generation.ensures c.if-not-is_generation.true-raw)

pub returns-then-not-is_cell : goal.returns-then-not-is_cell
unfolding remarks_good
returns-then-not-is_cell c =
    rw (eq-eqb _ _ c.if-s-ne50.false, told c.is_blank.ensures c.if-is_blank.false, passed c.is_generation.ensures c.if-not-is_generation.false-raw, failed c.is_cell.ensures c.if-not-is_cell.true-raw)

pub returns-then-not-is_installation : goal.returns-then-not-is_installation
unfolding remarks_good
returns-then-not-is_installation c =
    rw (eq-eqb _ _ c.if-s-ne50.false, told c.is_blank.ensures c.if-is_blank.false, passed c.is_generation.ensures c.if-not-is_generation.false-raw, passed c.is_cell.ensures c.if-not-is_cell.false-raw, failed c.is_installation.ensures c.if-not-is_installation.true-raw)

pub returns : goal.returns
unfolding remarks_good
returns c =
    rw (eq-eqb _ _ c.if-s-ne50.false, told c.is_blank.ensures c.if-is_blank.false, passed c.is_generation.ensures c.if-not-is_generation.false-raw, passed c.is_cell.ensures c.if-not-is_cell.false-raw, passed c.is_installation.ensures c.if-not-is_installation.false-raw)
    (rw (c.all_in.ensures, c.all_in-2.ensures) (free_text c.args.s.now c.if-s-ne50.false))
