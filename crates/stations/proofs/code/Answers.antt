-- `stations::code` meets its contract.
use mathlib.Core.Path.{ap, ◌∙◌}
use mathlib.Core.List.{List}
use Prim.Native.Nat.{ℕ}
use lib.ListN.{length}
use Rattle.station.specs.Codes.{station_code}
use Rattle.files.proofs.FileLaws.{record_wide}
use Rattle.stations.specs.Stations.{code_at}
use Rattle.stations.proofs.code.Goals as goal

pub station_code-requires : goal.station_code-requires
station_code-requires c =
    ap length c.whole_record.ensures ∙ record_wide c.args.file.now c.args.k c.requires

pub returns : goal.returns
unfolding code_at
returns c = c.station_code.ensures ∙ ap (λ (r : List ℕ). station_code r) c.whole_record.ensures
