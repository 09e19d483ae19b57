-- What every call on a file asks of its length first: where it is not refused the file is a header and at most so many stations as a file may have.
use mathlib.Core.Path.{◌≡◌, refl, sym}
use mathlib.Core.Logic.{⊎_elim}
use mathlib.Core.Bool.{Bool, true, false, not, ◌||◌}
use mathlib.Core.List.{List}
use Prim.Native.Nat.{ℕ, zero, suc, ◌+◌, ◌*◌, ◌%◌, ◌≤◌, ◌<◌, zero-le}
use native.Mathlib.Nat.{eq-or-lt_of_le}
use native.Mathlib.Omega.{arith}
use lib.ListN.{length}
use lib.Dec.{eqb}
use borrow.Author.Tests.{eqb-true, eqb-false, ltb-false, not-false}
use Rattle.basics.specs.Fields.{record_length}
use Rattle.basics.specs.Outcomes.{refusal, first_refusal}
use Rattle.basics.proofs.RefusalLaws.{done, NoneApplies, none_applies}
use Rattle.files.specs.Files.{stations, too_long, not_records, most_stations}
use Rattle.files.specs.Calls.{file_tests}

-- no truth is two
pub not_both : {A : Type 0} (b : Bool) → b ≡ true → b ≡ false → A
not_both b t f = absurd (let n : ◌≡◌ {A = ℕ} 0 1 = cc in omega arith)

-- A number that is not 0 is 1 or more.
pub positive : (k : ℕ) → (k ≡ 0 → ⊥) → 1 ≤ k
positive zero h = absurd (h refl)
positive (suc k) h = omega arith

pub or_false : (a b : Bool) → (a || b) ≡ false → (a ≡ false) × (b ≡ false)
or_false true b e = not_both true refl e
or_false false b e = (refl, e)

module _ (file : List ℕ) where
  -- A call that is done has a file of whole records,
  pub whole_records : NoneApplies (file_tests file) → (stations file ≤ most_stations) × (length file ≡ 219 * stations file + 219)
  unfolding too_long not_records stations
  whole_records none =
      let o = or_false (eqb (length file) 0) (not (eqb (length file % 219) 0)) none.1.0 in
      let most : length file ≤ record_length * (most_stations + 1) = ltb-false _ _ none.0 in
      let some = eqb-false _ _ o.0 in
      let whole : length file % 219 ≡ 0 = eqb-true _ _ (not-false _ o.1) in
      let pos : 0 < length file = ⊎_elim (λ q. absurd (some (sym q))) (λ q. q) (eq-or-lt_of_le zero-le) in
      (omega arith, omega arith)

  -- as `check_file` tells.
  pub length_passed : done (first_refusal (file_tests file)) ≡ true → NoneApplies (file_tests file)
  unfolding refusal
  length_passed d = none_applies (file_tests file) refl d
