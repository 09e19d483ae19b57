-- `line_ends::line_end` meets its contract.
use mathlib.Core.Path.{ap, ◌∙◌}
use Prim.Native.Nat.{ℕ}
use lib.ListN.{length}
use Rattle.std.specs.Prelude.{Option}
use Rattle.std.specs.Option.{unwrap_or}
use Rattle.gathering.proofs.CutLaws.{ends_behind, ends_with}
use Rattle.line_ends.proofs.line_end.Goals as goal

pub returns-then-at-text : goal.returns-then-at-text
returns-then-at-text c =
    let t = c.args.text.now in
    ends_behind t _ (c.unwrap_or-at.ensures ∙ ap (λ (o : Option ℕ). unwrap_or o (length t)) c.feed_in.ensures) c.if-at-text.true

pub returns : goal.returns
returns c =
    let t = c.args.text.now in
    ends_with t _ (c.unwrap_or-at.ensures ∙ ap (λ (o : Option ℕ). unwrap_or o (length t)) c.feed_in.ensures) c.if-at-text.false
