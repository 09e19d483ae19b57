-- `chains::keys::same_site` meets its contract: equal numbers are equal bytes.
use native.Mathlib.Omega.{arith}
use Rattle.chains.proofs.KeyLaws.{sites_same}
use Rattle.chains.proofs.keys.same_site.Goals as goal

pub returns : goal.returns
returns c =
    rw (c.site_number.ensures, c.site_number-2.ensures)
    (sites_same c.args.file.now (λ i. omega (arith, c.shared_slice_known-1.given i)) c.args.i c.args.k c.requires.0 c.requires.1)
