-- `vehicle_names::number_in` meets its contract: the piece behind the first five bytes, or nothing.
use mathlib.Core.Path.{◌≡◌, sym, ◌∙◌}
use mathlib.Core.Bool.{true, false}
use lib.ListN.{length}
use Rattle.basics.proofs.StandLaws.{cut_at, front_at}
use Rattle.vehicles.specs.Names.{holds_number}
use Rattle.vehicles.proofs.NameLaws.{holding_twenty, found_there, found_nothing}
use borrow.Author.Rules.{rules}
use Rattle.vehicle_names.proofs.number_in.Goals as goal

pub returns-then-not-holds_number : goal.returns-then-not-holds_number
returns-then-not-holds_number c =
    let name = c.args.name in
    let none : holds_number name.now ≡ false = sym c.holds_number.ensures ∙ c.if-not-holds_number.true in
    let found = found_nothing name.now none in
    (found.0, front_at name _ found.1)

pub slice_bounds-result-end-2 : goal.slice_bounds-result-end-2
slice_bounds-result-end-2 c =
    let name = c.args.name in
    let held : holds_number name.now ≡ true = sym c.holds_number.ensures ∙ c.if-not-holds_number.false in
    let twenty : length name.now ≡ 20 = holding_twenty name.now held in
    search rules

pub returns : goal.returns
returns c =
    let name = c.args.name in
    let held : holds_number name.now ≡ true = sym c.holds_number.ensures ∙ c.if-not-holds_number.false in
    let found = found_there name.now held in
    (found.0, cut_at name.ref_ptr.0 name.ref_ptr.1 5 _ found.1)
