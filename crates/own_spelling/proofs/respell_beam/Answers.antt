-- `own_spelling::respell_beam` meets its contract: each field is written after the one before it, or stays.
use mathlib.Core.Path.{◌≡◌, refl}
use mathlib.Core.Bool.{true, false}
use lib.ListN.{length, take, drop}
use Rattle.distances.specs.Distances.{ground_of, spell_ground}
use Rattle.basics.proofs.WriteLaws.{nothing_yet, all_written}
use Rattle.own_spelling.specs.OwnSpelling.{decimal_anew, beam_anew}
use Rattle.own_spelling.proofs.InPlaceLaws.{then_anew, then-whole, then_stays}
use native.Mathlib.Omega.{arith}
use Rattle.own_spelling.proofs.respell_beam.Goals as goal

pub returns : goal.returns
unfolding beam_anew ground_of spell_ground
returns c =
    let s = c.args.s.now in
    let l : length s ≡ 27 = c.requires in
    let w1 = then_anew (nothing_yet s) 6 (omega arith) (decimal_anew 3 true) c.respell_decimal.ensures c.respell_decimal.auto.s in
    let w2 = then_stays w1 1 (omega arith) (take 1 (drop 6 s)) refl in
    let w3 = then_anew w2 5 (omega arith) (decimal_anew 3 false) c.respell_decimal-2.ensures c.respell_decimal-2.auto.s in
    let w4 = then_anew w3 5 (omega arith) (decimal_anew 2 true) c.respell_decimal-3.ensures c.respell_decimal-3.auto.s in
    let w5 = then_stays w4 2 (omega arith) (take 2 (drop 17 s)) refl in
    let w6 = then_anew w5 4 (omega arith) (decimal_anew 2 false) c.respell_decimal-4.ensures c.respell_decimal-4.auto.s in
    let w7 = then-whole w6 4 (omega arith) c.respell_whole.ensures c.respell_whole.auto.s in
    all_written w7 l
