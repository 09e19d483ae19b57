-- `second::explain_second` meets its contract.
use Rattle.std.specs.Prelude.{Err}
use mathlib.Core.Path.{◌≡◌, ap, ◌∙◌}
use Prim.Native.Nat.{ℕ, ◌%◌}
use native.Mathlib.Nat.{mod-eq_of_lt}
use Rattle.basics.specs.declared.Refusal.TheVariants as why
use Rattle.basics.proofs.CallLaws.{length_ends, code_ends}
use Rattle.station.specs.Calls.{read_outcome}
use Rattle.station.specs.Codes.{station_code}
use Rattle.station_flaws.proofs.LengthLaws.{no_record}
use Rattle.second.proofs.TableLaws.{code_bound, read_flaw}
use Rattle.second.proofs.explain_second.Goals as goal

pub returns-then-rec-ne219 : goal.returns-then-rec-ne219
unfolding read_outcome
returns-then-rec-ne219 c = let r = c.args.rec.now in (length_ends r (station_code r) (Err why.RecordLength) c.if-rec-ne219.true, no_record r c.if-rec-ne219.true)

pub returns : goal.returns
unfolding read_outcome
returns c =
    let r = c.args.rec.now in
    let sized = c.if-rec-ne219.false in
    let code : c.found_in-found.result.code % 256 ≡ station_code r = ap (λ (n : ℕ). n % 256) c.found_in-found.ensures.0 ∙ mod-eq_of_lt (code_bound r) in
    (code_ends r (station_code r) (Err why.RecordLength) sized code c.judged-outcome.ensures, c.found_in-found.ensures.1 ∙ read_flaw r sized)
