-- `standing::spelled_alike` meets its contract: place and height are parts of the two records.
use mathlib.Core.Path.{◌≡◌, sym, ◌∙◌}
use mathlib.Core.Bool.{true, false≢true}
use mathlib.Core.List.{List}
use Prim.Native.Nat.{ℕ, ◌≤◌}
use native.Mathlib.Omega.{arith}
use lib.ListN.{length, take, drop, length-drop}
use lib.Seq.{length-take-le}
use Rattle.columns.specs.Texts.{same}
use Rattle.columns.proofs.SameLaws.{same_true}
use Rattle.files.specs.Files.{record_at}
use Rattle.stations.proofs.StationLaws.{column_there}
use Rattle.standing.proofs.SameLaws.{spelled_so}
use Rattle.standing.proofs.spelled_alike.Goals as goal

pub slice_bounds-equal_words-end : goal.slice_bounds-equal_words-end
slice_bounds-equal_words-end c =
    column_there c.args.file.now c.args.i c.requires.0 c.whole_record-theirs.ensures 66 (omega arith)

pub slice_bounds-equal_words-end-2 : goal.slice_bounds-equal_words-end-2
slice_bounds-equal_words-end-2 c =
    column_there c.args.file.now c.args.k c.requires.1 c.whole_record-mine.ensures 66 (omega arith)

-- 4C has fifteen bytes
fifteen : (rec : List ℕ) → 66 ≤ length rec → length (take 15 (drop 51 rec)) ≡ 15
fifteen rec h = length-take-le 15 (drop 51 rec) (rw length-drop (omega arith))

pub equal_words-requires : goal.equal_words-requires
equal_words-requires c =
    let file = c.args.file.now in
    let a = fifteen c.whole_record-theirs.result.now (column_there file c.args.i c.requires.0 c.whole_record-theirs.ensures 66 (omega arith)) in
    let b = fifteen c.whole_record-mine.result.now (column_there file c.args.k c.requires.1 c.whole_record-mine.ensures 66 (omega arith)) in
    record {
      a_len = a ∙ sym b;
      in_bounds = (omega (arith, a), omega (arith, a));
    }

pub slice_bounds-equal-end : goal.slice_bounds-equal-end
slice_bounds-equal-end c =
    column_there c.args.file.now c.args.i c.requires.0 c.whole_record-theirs.ensures 111 (omega arith)

pub slice_bounds-equal-end-then-equal_words : goal.slice_bounds-equal-end-then-equal_words
slice_bounds-equal-end-then-equal_words c =
    column_there c.args.file.now c.args.k c.requires.1 c.whole_record-mine.ensures 111 (omega arith)

pub returns-then-equal_words : goal.returns-then-equal_words
returns-then-equal_words c t =
    let theirs = record_at c.args.file.now c.args.i in
    let mine = record_at c.args.file.now c.args.k in
    let places : same (take 15 (drop 51 theirs)) (take 15 (drop 51 mine)) ≡ true = rw (c.whole_record-theirs.ensures, c.whole_record-mine.ensures) at (sym c.equal_words.ensures ∙ c.if-equal_words.true) in
    let heights : same (take 4 (drop 107 theirs)) (take 4 (drop 107 mine)) ≡ true = rw (c.whole_record-theirs.ensures, c.whole_record-mine.ensures) at (sym c.equal.ensures ∙ t) in
    spelled_so c.args.file.now c.args.i c.args.k (same_true _ _ places) (same_true _ _ heights)

pub returns-else-equal_words : goal.returns-else-equal_words
returns-else-equal_words c t = absurd (false≢true t)
