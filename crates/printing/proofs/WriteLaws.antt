-- What is printed of a file from what was put in: its length as it was asked, and a text that is put in first.
use Rattle.basics.specs.Outcomes.{Outcome}
use mathlib.Core.Path.{◌≡◌, sym, ap, ◌∙◌}
use mathlib.Core.Bool.{Bool, true, false, not}
use mathlib.Core.List.{List}
use Prim.Native.Nat.{ℕ, ◌+◌, ◌≤◌}
use native.Mathlib.Nat.{zero-add}
use native.Mathlib.Omega.{arith}
use lib.ListN.{length, drop, length-append}
use borrow.Author.Tests.{not-true, not-false}
use Rattle.basics.proofs.RefusalLaws.{done}
use Rattle.files.specs.Files.{stations, most_stations}
use Rattle.files.specs.Calls.{length_outcome}
use Rattle.files.proofs.LengthLaws.{length_passed, whole_records}
use Rattle.printing.specs.Promises.{Appended, Written}

-- A file whose length is right has at most 298 stations.
pub few : (file : List ℕ) {n : ℕ} → done (length_outcome file) ≡ true → n ≡ stations file → n ≤ most_stations
few file t e = rw e (whole_records file (length_passed file t)).0

-- What is put in from the first byte on, and is the text, is the text written.
pub written : {whole text out after : List ℕ} {answer : ℕ} → whole ≡ text → Appended out 0 text after answer → Written whole out answer after
written {whole} {text} e s =
    rw e
    record {
      size = s.ends ∙ zero-add (length text);
      stands = s.stands ∙ rw (zero-add (length text));
    }

-- A text that was written ends within the lent bytes.
pub within : (text out : List ℕ) {after : List ℕ} {answer : ℕ} → Written text out answer after → answer ≤ length after
within text out {after} w =
    let l : length after ≡ length text + length (drop (length text) out) = ap length w.stands ∙ length-append text (drop (length text) out) in
    omega (arith, w.size)
