-- `chains::keys::site_number` meets its contract: six bytes of the file.
use mathlib.Core.Path.{ap, ◌∙◌}
use Prim.Native.Nat.{ℕ, ◌%◌}
use native.Mathlib.Omega.{arith}
use Rattle.chains.proofs.KeyLaws.{site-there}
use Rattle.chains.proofs.keys.site_number.Goals as goal

pub returns : goal.returns
returns c =
    ap (λ (w : ℕ). w % 281474976710656) c.word.ensures
    ∙ site-there c.args.file.now (λ i. omega (arith, c.shared_slice_known-1.given i)) c.args.k c.requires
