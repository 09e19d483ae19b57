-- `padding::width_after` meets its contract: the small table is that of the places.
use mathlib.Core.Path.{refl}
use native.Mathlib.Omega.{arith}
use mir.Syntax.{w64}
use Rattle.columns.specs.Texts.{every}
use Rattle.station.specs.Places.{station_places}
use Rattle.padding.proofs.PutLaws.{widths, width_at, all_below}
use borrow.Author.Rules.{Fits-under}
use Rattle.padding.proofs.width_after.Goals as goal

pub overflow_cast-result : goal.overflow_cast-result
unfolding every
overflow_cast-result c = Fits-under w64 _ 256 (all_below 256 (widths station_places) c.args.k (omega arith) refl) tt

pub returns : goal.returns
returns c = width_at station_places c.args.k
