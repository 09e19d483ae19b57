-- `faults::marking::line_marks` meets its contract.
use Rattle.faults.specs.Faults.{marks_of}
use Rattle.faults.proofs.marking.line_marks.Goals as goal

pub returns : goal.returns
unfolding marks_of
returns c = λ k. record { semicolons = c.count-semicolons.ensures k; feeds = c.count-feeds.ensures k; ended = c.ends_in_feed.ensures k }
