-- `listing::put_entries` meets its contract: what the list has for so many stations stands, each behind the one before it.
use mathlib.Core.Path.{◌≡◌}
use Rattle.listing.specs.Lists.{entry_of}
use Rattle.printing.proofs.AppendLaws.{none, then}
use Rattle.printing.proofs.LineLaws.{rows_more}
use native.Mathlib.Omega.{arith}
use borrow.Author.Rules.{rules}
use Rattle.listing.proofs.put_entries.Goals as goal

pub loop-i-init : goal.loop-i-init
loop-i-init c = (search rules, search rules, none c.args.out.now 0 (omega arith))

pub loop-i-preserved : goal.loop-i-preserved
loop-i-preserved c =
    let file = c.args.file.now in
    (search rules, search rules, rw (rows_more (entry_of file) c.loop-i.i) (then c.loop-i.invariant.2 c.put_entry-end.ensures.appended))

pub returns : goal.returns
returns c =
    let e : c.loop-i.i ≡ c.args.n = omega arith in
    rw e at c.loop-i.invariant.2
