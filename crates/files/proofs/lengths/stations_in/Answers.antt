-- `files::lengths::stations_in` meets its contract.
use Rattle.files.specs.Files.{stations}
use native.Mathlib.Omega.{arith}
use borrow.Author.Rules.{rules}
use Rattle.files.proofs.lengths.stations_in.Goals as goal

pub returns-then-records-eq0 : goal.returns-then-records-eq0
unfolding stations
returns-then-records-eq0 c = omega arith

pub returns : goal.returns
unfolding stations
returns c = search rules
