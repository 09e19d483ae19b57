-- `chains::chaining::Chain::first_bearer` meets its contract: the walk begins at the highest of the slot.
use Rattle.chains.proofs.WalkLaws.{chain_begun}
use Rattle.chains.proofs.chaining.Chain.first_bearer.Goals as goal

pub walk-requires : goal.walk-requires
walk-requires c =
    let some = c.requires.chained in
    record {
      has_record = c.requires.has_record;
      le_k = c.requires.le_k;
      startable = record { who = some.who; begun = chain_begun c.args.key c.args.file.now c.args.self.now c.args.k _ c.slot-h.ensures.value c.slot-h.ensures.upper_bound some.who some.chains };
    }

pub returns : goal.returns
returns c who chains =
    c.walk.ensures who (chain_begun c.args.key c.args.file.now c.args.self.now c.args.k _ c.slot-h.ensures.value c.slot-h.ensures.upper_bound who chains)
