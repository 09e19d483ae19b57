-- `chains::chaining::walk` meets its contract: from one station of the chain to the next, whoever takes part.
use mathlib.Core.Path.{◌≡◌, sym, ◌∙◌}
use Prim.Native.Nat.{◌<◌}
use native.Mathlib.Omega.{arith}
use Rattle.chains.proofs.WalkLaws.{way_begins, way_below, way_hit, way_less, way_miss}
use Rattle.chains.proofs.chaining.walk.Goals as goal

pub loop-j-init : goal.loop-j-init
loop-j-init c =
    way_begins c.args.key c.args.file.now c.args.nexts.now c.args.start c.args.k c.requires.le_k.0

pub overflow_cast-at : goal.overflow_cast-at
overflow_cast-at c =
    let b : c.loop-j.j < c.args.k = way_below c.args.key c.args.file.now c.args.nexts.now c.args.start c.args.k c.requires.startable _ c.loop-j.invariant in
    omega (arith, b, c.requires.le_k.1)

pub same_key-requires : goal.same_key-requires
same_key-requires c =
    let b : c.loop-j.j < c.args.k = way_below c.args.key c.args.file.now c.args.nexts.now c.args.start c.args.k c.requires.startable _ c.loop-j.invariant in
    (omega (arith, b, c.requires.has_record), c.requires.has_record)

pub returns-then-same_key : goal.returns-then-same_key
returns-then-same_key c =
    way_hit c.args.key c.args.file.now c.args.nexts.now c.args.start c.args.k _ c.loop-j.invariant (omega arith) (sym c.same_key.ensures ∙ c.if-same_key.true)

pub offset_bounds-nexts-at : goal.offset_bounds-nexts-at
offset_bounds-nexts-at c =
    let b : c.loop-j.j < c.args.k = way_below c.args.key c.args.file.now c.args.nexts.now c.args.start c.args.k c.requires.startable _ c.loop-j.invariant in
    omega (arith, b, c.requires.le_k.1)

pub bounds-nexts-at : goal.bounds-nexts-at
bounds-nexts-at c =
    let b : c.loop-j.j < c.args.k = way_below c.args.key c.args.file.now c.args.nexts.now c.args.start c.args.k c.requires.startable _ c.loop-j.invariant in
    omega (arith, b, c.requires.le_k.1)

pub loop-j-smaller : goal.loop-j-smaller
loop-j-smaller c =
    way_less c.args.key c.args.file.now c.args.nexts.now c.args.start c.args.k c.requires.startable _ c.loop-j.invariant (omega arith) (sym c.same_key.ensures ∙ c.if-same_key.false)

pub loop-j-preserved : goal.loop-j-preserved
loop-j-preserved c =
    way_miss c.args.key c.args.file.now c.args.nexts.now c.args.start c.args.k _ c.loop-j.invariant (omega arith) (sym c.same_key.ensures ∙ c.if-same_key.false)

pub returns : goal.returns
returns c who b =
    let e : c.loop-j.j ≡ 0 = omega arith in
    rw e at (c.loop-j.invariant who b).1
