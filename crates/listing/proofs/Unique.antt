-- The promise of a list leaves one answer and one content of the lent bytes.
use mathlib.Core.Path.{◌≡◌}
use mathlib.Core.List.{List}
use Prim.Native.Nat.{ℕ}
use Rattle.printing.proofs.Unique.{one_written}
use Rattle.listing.specs.Lists.{list_of}
use Rattle.listing.specs.Promises.{ListWritten}

-- Two answers of `write_list` to one file and one buffer are equal, and so is what they leave there.
pub one_list : (file out : List ℕ) (r r' : ℕ) (after after' : List ℕ) → ListWritten file out r after → ListWritten file out r' after'
    → (r ≡ r') × (after ≡ after')
one_list file = one_written (list_of file)
