-- Numbers in plain decimal, and one row more.
use mathlib.Core.Path.{◌≡◌, ◌∙◌}
use mathlib.Core.List.{List, [], ◌++◌}
use Prim.Native.Nat.{ℕ, ◌+◌}
use native.Mathlib.Nat.{add-zero}
use native.Mathlib.Numerals.{add-one}
use lib.ListN.{length}
use Rattle.numerals.proofs.RoundTrip.{spelled_length}
use Rattle.forms.specs.Counting.{rows}
use Rattle.printing.specs.Lines.{places, decimal}

-- A number has as many digits as it needs.
pub decimal-length : (v : ℕ) → length (decimal v) ≡ places v
unfolding decimal
decimal-length v = spelled_length (places v) v [] ∙ add-zero (places v)

-- One row more.
pub rows_more : (row : ℕ → List ℕ) (i : ℕ) → rows row (i + 1) ≡ rows row i ++ row (i + 1)
rows_more row i = rw (add-one i)
