-- How verifying ends, and what it finds.
use Rattle.std.specs.Prelude.{Ok}
use mathlib.Core.Path.{◌≡◌, sym, ◌∙◌}
use mathlib.Core.Bool.{true, false}
use mathlib.Core.List.{List}
use Prim.Native.Nat.{ℕ}
use lib.ListN.{length}
use borrow.Author.Tests.{eq-eqb, ne_eqb}
use Rattle.basics.specs.Outcomes.{if_done, Outcome}
use Rattle.basics.proofs.RefusalLaws.{done, done_is}
use Rattle.sheet.specs.Sheets.{sheet_of}
use Rattle.sheet.specs.Calls.{judge_outcome}
use Rattle.alike.specs.Alike.{alike}
use Rattle.verifying.specs.Verifying.{compared, finding_of}
use Rattle.verifying.specs.Promises.{SheetVerified}
use Rattle.verifying.specs.declared.verifying.Finding.TheVariants as finding

module _ (file sheet : List ℕ) where
  -- Verifying that is refused finds nothing,
  pub verify_refused : {o : Outcome} → o ≡ judge_outcome file sheet → done o ≡ false → SheetVerified file sheet (record { outcome = o; finding = finding.Refused })
  unfolding finding_of if_done
  verify_refused e f = (e, sym (rw (← e, f)))

  -- one that is done a sheet that is right to its end,
  module _ {right : ℕ} (t : done (judge_outcome file sheet) ≡ true) (e : right ≡ alike (sheet_of file) sheet) where
    pub verify_right : right ≡ length sheet → SheetVerified file sheet (record { outcome = Ok tt; finding = finding.Right })
    unfolding finding_of if_done compared
    verify_right r = (sym (done_is (judge_outcome file sheet) t), sym (rw (t, ← e, eq-eqb right (length sheet) r)))

    -- or the first byte that is wrong.
    pub verify_wrong : (right ≡ length sheet → ⊥) → SheetVerified file sheet (record { outcome = Ok tt; finding = finding.WrongAt right })
    unfolding finding_of if_done compared
    verify_wrong r = (sym (done_is (judge_outcome file sheet) t), sym (rw (t, ← e, ne_eqb right (length sheet) r)))
