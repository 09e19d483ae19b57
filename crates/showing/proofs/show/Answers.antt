-- `showing::show` meets its contract: nothing, or the piece at the field's place.
use mathlib.Core.Path.{◌≡◌, ap, ◌∙◌}
use lib.ListN.{length}
use Rattle.files.specs.Files.{record_at}
use Rattle.places.specs.Places.{places_of}
use Rattle.showing.specs.Showing.{field_at}
use Rattle.files.proofs.FileLaws.{record_wide}
use Rattle.basics.proofs.RefusalLaws.{went_on, stopped}
use Rattle.places.proofs.PlaceLaws.{places_tile, place_inside, piece-there}
use Rattle.showing.proofs.ShowLaws.{shown_there, shown_field_lem, shown_nothing}
use Rattle.showing.proofs.PieceLaws.{offset_refused, field_stands}
use Rattle.basics.proofs.StandLaws.{front_at}
use Rattle.showing.proofs.show.Goals as goal

pub returns-then-is_err : goal.returns-then-is_err
returns-then-is_err c =
    let no = stopped c.show_outcome.ensures c.is_err.ensures.value c.if-is_err.true in
    (shown_nothing c.args.file.now c.args.k c.args.j no, front_at c.args.file _ (offset_refused c.args.file.now c.args.k c.args.j no))

pub field_in-requires : goal.field_in-requires
field_in-requires c =
    let file = c.args.file.now in
    let there = shown_there file c.args.k c.args.j (went_on c.show_outcome.ensures c.is_err.ensures.value c.if-is_err.false) in
    let wide : length c.record_in.result.now ≡ 219 = ap length c.record_in.ensures.0 ∙ record_wide file c.args.k there.whole in
    let inside = place_inside (places_of c.args.k) c.args.j there.positive there.there (places_tile c.args.k) in
    rw (c.field_place.ensures, wide) inside

pub returns : goal.returns
unfolding field_at
returns c =
    let file = c.args.file.now in
    let yes = went_on c.show_outcome.ensures c.is_err.ensures.value c.if-is_err.false in
    let there = shown_there file c.args.k c.args.j yes in (
      c.field_in.ensures.0
          ∙ rw (c.field_place.ensures, c.record_in.ensures.0) (piece-there (places_of c.args.k) c.args.j there.positive there.there (record_at file c.args.k))
          ∙ shown_field_lem file c.args.k c.args.j yes,
      field_stands c.args.file c.record_in.result c.field_in.result c.args.k c.args.j c.field_place.ensures yes c.record_in.ensures.1 c.field_in.ensures.1,
    )
