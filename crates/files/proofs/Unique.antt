-- The promises of the calls on files leave one answer.
use Rattle.basics.specs.Outcomes.{Outcome}
use mathlib.Core.Path.{◌≡◌, sym, ◌∙◌}
use mathlib.Core.List.{List}
use Prim.Native.Nat.{ℕ}
use denote.Ref.{Bor}
use Rattle.files.specs.Promises.{FileChecked, StationsCounted, RecordFound}

-- Two answers of `check_file` to one file are equal,
pub one_check : (file : List ℕ) (a b : Outcome) → FileChecked file a → FileChecked file b → a ≡ b
one_check file a b p q = p ∙ sym q

-- of `stations_in`,
pub one_count : (file : List ℕ) (a b : ℕ) → StationsCounted file a → StationsCounted file b → a ≡ b
one_count file a b p q = p ∙ sym q

-- and of `record_in`: the same bytes at the same place.
pub one_record : (file : Bor (List ℕ)) (k : ℕ) (a b : Bor (List ℕ)) → RecordFound file k a → RecordFound file k b → (a.ref_ptr ≡ b.ref_ptr) × (a.now ≡ b.now)
one_record file k a b p q = (p.1 ∙ sym q.1, p.0 ∙ sym q.0)
