-- The promise of the call for carriages leaves one answer and one content of the lent bytes.
use mathlib.Core.Path.{◌≡◌}
use mathlib.Core.List.{List}
use Prim.Native.Nat.{ℕ}
use Rattle.carriage_lines.specs.Calls.{carriage_filing, filed_carriage}
use Rattle.desk_lists.specs.Carriages.{CarriageRecordIn}
use Rattle.answers.proofs.Unique.{one_ending}

-- `desk_carriage` leaves one answer, one code and one content of the record.
pub one_carriage_in : (t defaults before : List ℕ) (a b c d : ℕ) (x y : List ℕ) → CarriageRecordIn t defaults before a x c → CarriageRecordIn t defaults before b y d → (a ≡ b) × (c ≡ d) × (x ≡ y)
one_carriage_in t defaults before = one_ending (carriage_filing t defaults before) (filed_carriage t defaults before)
