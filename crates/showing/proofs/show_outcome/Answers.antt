-- `showing::show_outcome` meets its contract: the file's length, the record's number, the field's.
use Rattle.std.specs.Prelude.{Err}
use mathlib.Core.Path.{◌≡◌, sym, ◌∙◌}
use mathlib.Core.Bool.{true, false, ◌||◌}
use mathlib.Core.List.{[], ◌∷◌}
use lib.Dec.{ltb, eqb}
use borrow.Author.Tests.{lt-ltb, le-ltb, not-true, not-false}
use Rattle.basics.specs.Outcomes.{first_refusal}
use Rattle.basics.specs.declared.Refusal.TheVariants as why
use Rattle.basics.proofs.RefusalLaws.{passed_on, error_told, none_told, done, went_on, stopped, passes, stops, none_left, asked-on, ended-there}
use Rattle.files.specs.Files.{stations}
use Rattle.places.specs.Places.{field_count}
use Rattle.files.specs.Calls.{file_tests, number_test}
use Rattle.showing.specs.Showing.{field_test, show_outcome}
use Rattle.files.proofs.LengthLaws.{length_passed}
use Rattle.showing.proofs.show_outcome.Goals as goal
use Rattle.showing.proofs.show_outcome.Goals.{After-stations_in, Else-k-stations_in}

pub returns-in_err-check_file : goal.returns-in_err-check_file
unfolding show_outcome
returns-in_err-check_file c =
    passed_on c.from_residual.ensures.1 c.in_err-check_file.ensures
    ∙ ended-there (file_tests c.args.file.now) (number_test c.args.file.now c.args.k ∷ field_test c.args.k c.args.j ∷ []) (error_told c.in_err-check_file.ensures)

-- the file's length is passed
passed : (c : After-stations_in) → show_outcome c.args.file.now c.args.k c.args.j ≡ first_refusal (number_test c.args.file.now c.args.k ∷ field_test c.args.k c.args.j ∷ [])
unfolding show_outcome
passed c =
    let file = c.args.file.now in
    let yes : done (first_refusal (file_tests file)) ≡ true = none_told c.in_ok-check_file.ensures in
    asked-on (file_tests file) (number_test file c.args.k ∷ field_test c.args.k c.args.j ∷ []) (length_passed file yes)

pub returns-then-k-stations_in : goal.returns-then-k-stations_in
returns-then-k-stations_in c =
    let above : ltb (stations c.args.file.now) c.args.k ≡ true = rw (← c.stations_in.ensures) (lt-ltb _ _ c.if-k-stations_in.true) in
    sym ((passed (goal.at.returns-then-k-stations_in c).After-stations_in) ∙ stops (Err why.NoSuchRecord) _ above)

-- the number is not above n
inside : (c : Else-k-stations_in) → ltb (stations c.args.file.now) c.args.k ≡ false
inside c = rw (← c.stations_in.ensures) (le-ltb _ _ c.if-k-stations_in.false)

pub returns-then-not-has_field : goal.returns-then-not-has_field
returns-then-not-has_field c =
    let none : (eqb c.args.j 0 || ltb (field_count c.args.k) c.args.j) ≡ true = not-false _ (sym c.has_field.ensures ∙ c.if-not-has_field.true) in
    sym ((passed (goal.at.returns-then-not-has_field c).After-stations_in) ∙ passes (Err why.NoSuchRecord) _ (inside (goal.at.returns-then-not-has_field c).Else-k-stations_in) ∙ stops (Err why.NoSuchField) _ none)

pub returns : goal.returns
returns c =
    let some : (eqb c.args.j 0 || ltb (field_count c.args.k) c.args.j) ≡ false = not-true _ (sym c.has_field.ensures ∙ c.if-not-has_field.false) in
    sym ((passed (goal.at.returns c).After-stations_in) ∙ passes (Err why.NoSuchRecord) _ (inside (goal.at.returns c).Else-k-stations_in) ∙ passes (Err why.NoSuchField) _ some ∙ none_left)
