-- `chains::keys::same_reference` meets its contract: 13X have fifteen bytes.
use mathlib.Core.Path.{◌≡◌, sym, ap, ◌∙◌}
use native.Mathlib.Omega.{arith}
use lib.ListN.{length}
use Rattle.stations.proofs.StationLaws.{reference_wide}
use Rattle.chains.proofs.keys.same_reference.Goals as goal

pub equal_words-requires : goal.equal_words-requires
equal_words-requires c =
    let a : length c.reference.result.now ≡ 15 = ap length c.reference.ensures ∙ reference_wide _ _ c.requires.0 in
    let b : length c.reference-2.result.now ≡ 15 = ap length c.reference-2.ensures ∙ reference_wide _ _ c.requires.1 in
    record {
      a_len = a ∙ sym b;
      in_bounds = (omega arith, omega arith);
    }

pub returns : goal.returns
returns c = c.equal_words.ensures ∙ rw (c.reference.ensures, c.reference-2.ensures)
