-- `own_spelling::respell_location` meets its contract: each field is written after the one before it.
use mathlib.Core.Path.{◌≡◌}
use lib.ListN.{length}
use Rattle.distances.specs.Distances.{radius_of, spell_radius, height_of, spell_height}
use Rattle.positions.specs.Positions.{position_of, spell_position}
use Rattle.basics.proofs.WriteLaws.{nothing_yet, all_written}
use Rattle.own_spelling.specs.OwnSpelling.{location_anew}
use Rattle.own_spelling.proofs.InPlaceLaws.{then_anew, then-whole}
use native.Mathlib.Omega.{arith}
use Rattle.own_spelling.proofs.respell_location.Goals as goal

pub returns : goal.returns
unfolding location_anew radius_of spell_radius
returns c =
    let s = c.args.s.now in
    let l : length s ≡ 24 = c.requires.0 in
    let w1 = then_anew (nothing_yet s) 15 (omega arith) (λ p. spell_position (position_of p)) c.respell_position.ensures c.respell_position.auto.s in
    let w2 = then-whole w1 5 (omega arith) c.respell_whole.ensures c.respell_whole.auto.s in
    let w3 = then_anew w2 4 (omega arith) (λ p. spell_height (height_of p)) c.respell_height.ensures c.respell_height.auto.s in
    all_written w3 l
