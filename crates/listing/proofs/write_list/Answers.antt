-- `listing::write_list` meets its contract: refused, or the entries of all stations.
use mathlib.Core.Path.{◌≡◌, sym, ap, ◌∙◌}
use Prim.Native.Nat.{ℕ}
use Rattle.basics.specs.Outcomes.{refusal, Outcome}
use Rattle.files.proofs.LengthLaws.{length_passed, whole_records}
use Rattle.printing.specs.Lines.{refused_line}
use Rattle.files.specs.Calls.{length_outcome}
use Rattle.basics.proofs.RefusalLaws.{went_on, stopped}
use Rattle.printing.proofs.WriteLaws.{written}
use Rattle.listing.proofs.LengthLaws.{refused_list, whole_list}
use native.Mathlib.Omega.{arith}
use Rattle.listing.proofs.write_list.Goals as goal

pub returns-then-is_err : goal.returns-then-is_err
returns-then-is_err c =
    let file = c.args.file.now in
    let asked : c.check_file-outcome.result ≡ length_outcome file = c.check_file-outcome.ensures in
    let no = stopped asked c.is_err.ensures.value c.if-is_err.true in
    let number : refusal (length_outcome file) ≡ c.refusal_number.result = ap (λ (o : Outcome). refusal o) (sym asked) ∙ sym c.refusal_number.ensures in
    written (refused_list file no ∙ ap (λ (r : ℕ). refused_line r) number) c.put_refused.ensures

pub put_entries-requires : goal.put_entries-requires
put_entries-requires c =
    let file = c.args.file.now in
    let whole = whole_records file (length_passed file (went_on c.check_file-outcome.ensures c.is_err.ensures.value c.if-is_err.false)) in
    rw c.stations_in.ensures (whole.0, omega (arith, whole.1), omega (arith, whole.0))

pub returns : goal.returns
returns c =
    let file = c.args.file.now in
    let yes = went_on c.check_file-outcome.ensures c.is_err.ensures.value c.if-is_err.false in
    written (whole_list file yes) (rw c.stations_in.ensures at c.put_entries.ensures)
