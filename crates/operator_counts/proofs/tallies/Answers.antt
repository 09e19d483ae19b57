-- `operator_counts::tallies` meets its contract: the table holds the tallies of the stations heard so far.
use mathlib.Core.Path.{◌≡◌, refl, sym, ◌∙◌}
use Prim.Native.Nat.{◌+◌, ◌-◌, zero-le}
use Rattle.hundredths.specs.Hundredths.{extreme}
use Rattle.std.specs.Prelude.{Some}
use Rattle.operator_counts.specs.Counts.{heard_at, tally_of, tabled}
use Rattle.operator_counts.proofs.HeardLaws.{heard_below}
use Rattle.operator_counts.proofs.TallyLaws.{table_nothing, tally_room, table_station}
use native.Mathlib.Omega.{arith}
use borrow.Author.Rules.{rules}
use Rattle.operator_counts.proofs.tallies.Goals as goal
use Rattle.operator_counts.proofs.tallies.Goals.{in-Some, in_default}

pub loop-i-init : goal.loop-i-init
unfolding tabled tally_of extreme
loop-i-init c = refl

pub offset_bounds-counts-heard : goal.offset_bounds-counts-heard
offset_bounds-counts-heard c =
    let own : heard_at c.args.file.now (c.loop-i.i + 1) ≡ Some c.in-Some.heard = sym c.heard_of.ensures ∙ c.in-Some.is in
    record { fits = omega (arith, heard_below _ _ _ own) }

pub bounds-counts-heard : goal.bounds-counts-heard
bounds-counts-heard c =
    let own : heard_at c.args.file.now (c.loop-i.i + 1) ≡ Some c.in-Some.heard = sym c.heard_of.ensures ∙ c.in-Some.is in
    heard_below _ _ _ own

pub added-requires : goal.added-requires
added-requires c =
    let own : heard_at c.args.file.now (c.loop-i.i + 1) ≡ Some c.in-Some.heard = sym c.heard_of.ensures ∙ c.in-Some.is in
    tally_room (heard_at c.args.file.now) c.loop-i.i c.loop-i.counts c.loop-i.invariant _ own (heard_below _ _ _ own) (search rules)

pub offset_bounds-counts-heard-in-Some : goal.offset_bounds-counts-heard-in-Some
offset_bounds-counts-heard-in-Some c =
    let own : heard_at c.args.file.now (c.loop-i.i + 1) ≡ Some c.in-Some.heard = sym c.heard_of.ensures ∙ c.in-Some.is in
    record { fits = omega (arith, heard_below _ _ _ own) }

pub bounds-counts-heard-in-Some : goal.bounds-counts-heard-in-Some
bounds-counts-heard-in-Some c =
    let own : heard_at c.args.file.now (c.loop-i.i + 1) ≡ Some c.in-Some.heard = sym c.heard_of.ensures ∙ c.in-Some.is in
    heard_below _ _ _ own

pub loop-i-preserved : goal.loop-i-preserved
loop-i-preserved c =
    elim c.match-heard_of.branch [
      | in-Some w ↦
          let own : heard_at c.args.file.now (c.loop-i.i + 1) ≡ Some w.in-Some.heard = sym c.heard_of.ensures ∙ w.in-Some.is in
          w.counts-is ∙ table_station (heard_at c.args.file.now) c.loop-i.i c.loop-i.counts c.loop-i.invariant _ own (heard_below _ _ _ own) w.added.result w.added.ensures
      | in_default w ↦ w.counts-is ∙ table_nothing (heard_at c.args.file.now) c.loop-i.i c.loop-i.counts c.loop-i.invariant (sym c.heard_of.ensures ∙ w.in_default.is)
    ]

pub returns : goal.returns
returns c =
    let e : c.loop-i.i ≡ c.args.n = omega arith in
    rw e at c.loop-i.invariant
