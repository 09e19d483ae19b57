-- `positions::read_position` meets its contract: what was read of each half keeps its rule and says its value.
use mathlib.Core.Path.{◌≡◌, sym, ap, ◌∙◌}
use mathlib.Core.Bool.{true, false, cond, ◌&&◌, ◌||◌}
use native.Mathlib.Omega.{arith}
use lib.ListN.{take, drop, length-drop}
use lib.Dec.{eqb}
use lib.Seq.{take_all}
use borrow.Author.Tests.{eq-eqb, ne_eqb, not-true, not-false}
use Rattle.columns.specs.Texts.{sized}
use Rattle.flaws.specs.Flaws.{unread}
use Rattle.flaws.specs.declared.Flaw.{Flaw}
use Rattle.flaws.specs.declared.Flaw.TheVariants as flaw
use Rattle.numerals.specs.Numbers.{whole_filled}
use Rattle.positions.specs.Positions.{arc_good, position_good, position_of, admits_position, position_reads, unread_position, located_of}
use Rattle.positions.proofs.ArcLaws.{arc_good_lem, arc_reads_lem, arc_value, arc_few}
use Rattle.positions.proofs.Letters.{places-letters}
use Rattle.numerals.proofs.Signs.{in_bits}
use Rattle.positions.proofs.read_position.Goals as goal
use Rattle.positions.proofs.read_position.Goals.{After-arc_in-north, After-is_arc, After-is_arc-2, Else-s-ne15}
use Rattle.std.specs.Prelude.{Err}

-- fifteen columns
long : (c : Else-s-ne15) → sized 15 c.args.s.now ≡ true
long c = eq-eqb _ _ c.if-s-ne15.false

-- the last seven of them
rest : (c : Else-s-ne15) → let s = c.args.s.now in take 7 (drop 8 s) ≡ drop 8 s
rest c = let s = c.args.s.now in take_all 7 (drop 8 s) (simp length-drop (omega (arith, c.if-s-ne15.false)))

-- the tests of the halves
east : (c : After-is_arc) → c.is_arc.result ≡ arc_good 3 "EW" 180 (take 8 c.args.s.now)
east c = c.is_arc.ensures ∙ arc_good_lem 3 _ c.arc_in-east.ensures "E" "W" 180

north : (c : After-is_arc-2) → (let s = c.args.s.now in take 7 (drop 8 s) ≡ drop 8 s) → c.is_arc-2.result ≡ arc_good 2 "NS" 90 (drop 8 c.args.s.now)
north c rest =
    c.is_arc-2.ensures ∙ arc_good_lem 2 _ c.arc_in-north.ensures "N" "S" 90 ∙ ap (arc_good 2 "NS" 90) (rest)

-- what is wrong with halves that are no place is wrong with the columns
wrong : (c : After-arc_in-north) → (sized 15 c.args.s.now ≡ true) → (let s = c.args.s.now in take 7 (drop 8 s) ≡ drop 8 s) → (r : Flaw) → let s = c.args.s.now in
    r ≡ cond ((whole_filled c.arc_in-east.result.degrees && (eqb c.arc_in-east.result.letter 69 || (eqb c.arc_in-east.result.letter 87 || false)) && whole_filled c.arc_in-east.result.minutes && whole_filled c.arc_in-east.result.seconds)
    && (whole_filled c.arc_in-north.result.degrees && (eqb c.arc_in-north.result.letter 78 || (eqb c.arc_in-north.result.letter 83 || false)) && whole_filled c.arc_in-north.result.minutes && whole_filled c.arc_in-north.result.seconds))
    flaw.Range (unread admits_position s)
    → r ≡ unread_position s
unfolding unread_position position_reads
wrong c long rest r h =
    let s = c.args.s.now in
    h ∙ rw (arc_reads_lem 3 (take 8 s) c.arc_in-east.ensures "E" "W", arc_reads_lem 2 (take 7 (drop 8 s)) c.arc_in-north.ensures "N" "S", rest, long)

pub returns-then-s-ne15 : goal.returns-then-s-ne15
unfolding located_of position_good unread_position position_reads
returns-then-s-ne15 c = rw (ne_eqb _ _ c.if-s-ne15.true) (ap Err (c.unread_of.ensures ∙ places-letters _))

pub returns-then-not-is_arc : goal.returns-then-not-is_arc
unfolding located_of position_good
returns-then-not-is_arc c =
    rw ((long (goal.at.returns-then-not-is_arc c).Else-s-ne15), ← (east (goal.at.returns-then-not-is_arc c).After-is_arc), not-true c.is_arc.result c.if-not-is_arc.true-raw) (ap Err ((wrong (goal.at.returns-then-not-is_arc c).After-arc_in-north (long (goal.at.returns-then-not-is_arc c).Else-s-ne15) (rest (goal.at.returns-then-not-is_arc c).Else-s-ne15)) _ c.unread_position.ensures))

pub returns-then-not-is_arc-2 : goal.returns-then-not-is_arc-2
unfolding located_of position_good
returns-then-not-is_arc-2 c =
    rw ((long (goal.at.returns-then-not-is_arc-2 c).Else-s-ne15), ← (east (goal.at.returns-then-not-is_arc-2 c).After-is_arc), not-false c.is_arc.result c.if-not-is_arc.false-raw, ← (north (goal.at.returns-then-not-is_arc-2 c).After-is_arc-2 (rest (goal.at.returns-then-not-is_arc-2 c).Else-s-ne15)), not-true c.is_arc-2.result c.if-not-is_arc-2.true-raw) (ap Err ((wrong (goal.at.returns-then-not-is_arc-2 c).After-arc_in-north (long (goal.at.returns-then-not-is_arc-2 c).Else-s-ne15) (rest (goal.at.returns-then-not-is_arc-2 c).Else-s-ne15)) _ c.unread_position-then-not-is_arc-2.ensures))

pub arc_seconds-requires : goal.arc_seconds-requires
arc_seconds-requires c = arc_few 3 _ c.arc_in-east.ensures "EW" 180 (sym (east (goal.at.arc_seconds-requires c).After-is_arc) ∙ c.if-not-is_arc.false) (omega arith)

pub arc_seconds-requires-2 : goal.arc_seconds-requires-2
arc_seconds-requires-2 c =
    arc_few 2 _ c.arc_in-north.ensures "NS" 90 (ap (arc_good 2 "NS" 90) (rest (goal.at.arc_seconds-requires-2 c).Else-s-ne15) ∙ sym (north (goal.at.arc_seconds-requires-2 c).After-is_arc-2 (rest (goal.at.arc_seconds-requires-2 c).Else-s-ne15)) ∙ c.if-not-is_arc-2.false) (omega arith)

pub returns : goal.returns
unfolding located_of position_good position_of
returns c =
    let s = c.args.s.now in
    rw (
      (long (goal.at.returns c).Else-s-ne15),
      ← (east (goal.at.returns c).After-is_arc),
      not-false c.is_arc.result c.if-not-is_arc.false-raw,
      ← (north (goal.at.returns c).After-is_arc-2 (rest (goal.at.returns c).Else-s-ne15)),
      not-false c.is_arc-2.result c.if-not-is_arc-2.false-raw,
      in_bits c.arc_seconds.result c.arc_seconds.type_inv,
      in_bits c.arc_seconds-2.result c.arc_seconds-2.type_inv,
      c.arc_seconds.ensures,
      c.arc_seconds-2.ensures,
      arc_value 3 (take 8 s) c.arc_in-east.ensures "W",
      arc_value 2 (take 7 (drop 8 s)) c.arc_in-north.ensures "S",
      (rest (goal.at.returns c).Else-s-ne15),
    )
