-- `chains::chaining::Chain::lead` meets its contract: the highest of its slot is the next below it.
use native.Mathlib.Omega.{arith}
use Rattle.chains.specs.Keys.{lookup}
use Rattle.chains.proofs.ChainLaws.{put_in_front}
use Rattle.chains.proofs.chaining.Chain.lead.Goals as goal

pub returns : goal.returns
returns c who on so_far =
    put_in_front (lookup c.args.key who c.args.file.now) c.args.self.now c.args.k _ c.requires.le_k.0 so_far c.slot-h.ensures.value c.slot-h.ensures.upper_bound on (omega (arith, c.requires.le_k.1))
