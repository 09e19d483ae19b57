-- `header_reading::read_header` meets its contract: a record that is not refused has 219 bytes.
use Rattle.std.specs.Prelude.{Err}
use mathlib.Core.Path.{◌≡◌, refl, sym, ap, ◌∙◌}
use mathlib.Core.Bool.{true}
use mathlib.Core.List.{List}
use Prim.Native.Nat.{ℕ}
use lib.ListN.{length}
use Rattle.basics.specs.Fields.{record_length}
use Rattle.basics.specs.Outcomes.{refusal}
use Rattle.basics.specs.declared.Refusal.TheVariants as why
use Rattle.basics.proofs.RefusalLaws.{ok-done, done}
use Rattle.basics.proofs.CallLaws.{accepted, handed}
use Rattle.header.specs.Values.{empty_header}
use Rattle.header.specs.Codes.{header_value, header_code}
use Rattle.header.specs.Calls.{read_header_outcome, read_header}
use Rattle.header_reading.proofs.read_header.Goals as goal
use Rattle.header_reading.proofs.read_header.Goals.{After-is_ok}

-- a record that is not refused has its length
fits : (r : List ℕ) → done (read_header_outcome r) ≡ true → length r ≡ record_length
unfolding read_header_outcome refusal
fits r e = (accepted r (header_code r) (Err why.RecordLength) refl e).0

-- what the test says of the record
tested : (c : After-is_ok) → c.is_ok.result ≡ done (read_header_outcome c.args.rec.now)
tested c = (c.is_ok.ensures.value ∙ ok-done _) ∙ ap done c.check_header-outcome.ensures

pub header_in-requires : goal.header_in-requires
header_in-requires c =
    let r = c.args.rec.now in
    fits r (sym (tested (goal.at.header_in-requires c).After-is_ok) ∙ c.if-is_ok.true)

pub returns-then-is_ok : goal.returns-then-is_ok
unfolding read_header
returns-then-is_ok c =
    let r = c.args.rec.now in
    (c.check_header-outcome.ensures, c.header_in.ensures ∙ handed (read_header_outcome r) (header_value r) empty_header (sym c.if-is_ok.true ∙ (tested (goal.at.returns-then-is_ok c).After-is_ok)))

pub returns : goal.returns
unfolding read_header
returns c =
    let r = c.args.rec.now in
    (c.check_header-outcome.ensures, c.empty_header.ensures ∙ handed (read_header_outcome r) (header_value r) empty_header (sym c.if-is_ok.false ∙ (tested (goal.at.returns c).After-is_ok)))
