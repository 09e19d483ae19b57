-- `emissions::letters` meets its contract: the library counts the same bytes.
use Rattle.std.proofs.Common.{rules, ◌≡◌, ◌∙◌, sym}
use Rattle.std.specs.List.{count_by}
use Rattle.std.proofs.iter.runs.Made.{chains}
use Rattle.columns.specs.Sets.{among}
use Rattle.columns.proofs.CountLaws.{how_many-count_by}
use Rattle.emissions.proofs.letters.Goals as goal

pub returns : goal.returns
returns c =
    let e : c.count.result ≡ count_by (among "HKMG") c.args.s.now = search (rules, chains) in
    e ∙ sym (how_many-count_by (among "HKMG") c.args.s.now)
