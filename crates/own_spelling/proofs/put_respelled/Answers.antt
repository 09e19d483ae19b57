-- `own_spelling::put_respelled` meets its contract: what is respelled is the record, copied.
use mathlib.Core.Path.{◌≡◌, sym, ap, subst, ◌∙◌}
use mathlib.Core.List.{List}
use Prim.Native.Nat.{ℕ}
use lib.ListN.{length}
use borrow.Author.Tests.{eq-eqb}
use Rattle.station.specs.Spelling.{spell_station}
use Rattle.station.specs.Codes.{value_of, station_code}
use Rattle.own_spelling.proofs.put_respelled.Goals as goal
use Rattle.own_spelling.proofs.put_respelled.Goals.{After-write_text}

-- what stands in the buffer is the record
copied : (c : After-write_text) → c.write_text.new.s ≡ c.args.rec.now
copied c =
    c.write_text.ensures.s_after ∙ rw (eq-eqb (length c.args.out.now) (length c.args.rec.now) (c.requires.1 ∙ sym c.requires.0))

pub respell_in_place-requires : goal.respell_in_place-requires
respell_in_place-requires c =
    subst (λ (l : List ℕ). (length l ≡ 219) × (station_code l ≡ 0)) (sym (copied (goal.at.respell_in_place-requires c).After-write_text)) (c.requires.0, c.requires.2)

pub returns : goal.returns
returns c = c.respell_in_place.ensures ∙ ap (λ (l : List ℕ). spell_station (value_of l)) (copied (goal.at.returns c).After-write_text)
