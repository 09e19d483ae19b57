-- `line_gathering::gather` meets its contract.
use Rattle.gathering.proofs.HoldLaws.{counted_with}
use Rattle.line_gathering.proofs.gather.Goals as goal

pub returns : goal.returns
returns c =
    let g = c.args.kept in
    let semicolons = counted_with 30 g.semicolons _ _ c.sum_to-semicolons.ensures c.count.ensures in
    let feeds = counted_with 2 g.feeds _ _ c.sum_to-feeds.ensures c.count-2.ensures in
    (λ k. record { held = c.hold-held.ensures.value k; semicolons = semicolons k; feeds = feeds k; last = c.last_after-last.ensures k }, c.hold-held.ensures.buffer_after)
