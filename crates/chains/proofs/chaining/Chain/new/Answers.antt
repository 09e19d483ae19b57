-- `chains::chaining::Chain::new` meets its contract: no chain has a station.
use Rattle.chains.proofs.ChainLaws.{none-chained}
use Rattle.chains.proofs.chaining.Chain.new.Goals as goal

pub returns : goal.returns
returns c search = none-chained search
